-- The state of a shell: a session, and the bytes that the shell has written.
use Rattle.std.specs.Prelude.{ℕ, List, Option}
use Rattle.mcs_disk.specs.Disk.{DiskState}
use Rattle.mcs_session.specs.SessionState.{SessionState, SessionView, session_state}

-- the bytes that a reader can still return or that a writer has received, or `None` if these bytes
-- are not known
abbrev pub KnownBytes : Type 0
KnownBytes = Option (List ℕ)

-- the state of a shell: its session, and the bytes that the shell has written so far, or `None` if
-- these bytes are not known
pub record ShellState : Type 1 where
  pub session : SessionState
  pub out : KnownBytes

-- the state of a shell whose session is on a disk of any type; `state_of` maps the disk to the
-- `DiskState` that contracts use
abbrev pub shell_state : {D : Type 0} → (D → DiskState) → SessionView D → KnownBytes → ShellState
shell_state state_of s out = record { session = session_state state_of s; out = out }

-- the shell state `a`, but with `out` as the bytes written
abbrev pub with_output : ShellState → KnownBytes → ShellState
with_output a out = record { session = a.session; out = out }
