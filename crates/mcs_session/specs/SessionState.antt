-- The state of a session as contracts see it: the state of its disk, whether the session is open,
-- and the state of its bench.
use Rattle.std.specs.Prelude.{Bool}
use Rattle.mcs_disk.specs.Disk.{DiskState}
use Rattle.mcs_model.specs.BenchState.{BenchState}

-- a session as contracts see it: its disk of type D, whether it is open, and the state of its bench
pub record SessionView (D : Type 0) : Type 0 where
  pub disk : D
  -- true if the session is open: no call on it has failed with `Device`
  pub live : Bool
  pub state : BenchState

-- the state of a session, with the state of its disk instead of the disk itself
pub record SessionState : Type 1 where
  pub disk : DiskState
  -- true if the session is open: no call on it has failed with `Device`
  pub live : Bool
  pub state : BenchState

-- a condition that a session must meet for a promise to hold
abbrev pub Premise : Type 1
Premise = SessionState → Type 0

-- the state of a session on a disk of type D; `state_of` returns the state of the disk
abbrev pub session_state : {D : Type 0} → (D → DiskState) → SessionView D → SessionState
session_state state_of s = record { disk = state_of s.disk; live = s.live; state = s.state }
