-- The effect of the page's calls on the bytes of a session file.
use Rattle.std.specs.Prelude.{◌≡◌, ◌≤◌, ◌<◌, ℕ, List, [], IsTrue, Option, Some, length, take, drop}
use Rattle.mcs_disk.specs.Disk.{DiskState, bytes_of, size_of}
use Rattle.mcs_journal.specs.declared.fault.StoreFault.{StoreFault}
use Rattle.mcs_journal.specs.declared.fault.StoreFault.TheVariants as store_fault
use Rattle.mcs_model.specs.BenchState.{BenchState, new_bench_state}
use Rattle.mcs_disk.specs.States.{IsFresh, mem_disk_state}
use Rattle.mcs_disk.specs.declared.memory.MemDisk.{MemDisk}
use Rattle.mcs_wasm.specs.declared.fault.ServeFault.{ServeFault}
use Rattle.mcs_wasm.specs.declared.fault.ServeFault.TheVariants.{Refused, NoRoom}
use Rattle.mcs_session.specs.Opening.{SessionErrorImplies}
use Rattle.mcs_session.specs.SessionState.{SessionView}
use Rattle.mcs_session.specs.Represents.{HoldsState, RepresentsInEitherVersion, Represents}
use Rattle.mcs_shell.specs.Program.{OpenBegins}
use Rattle.mcs_shell.specs.Shell.{RanShell}
use Rattle.mcs_shell.specs.ShellState.{shell_state}
use Rattle.mcs_shell.specs.declared.ends.ShellEnd.{ShellEnd}
use Rattle.mcs_shell.specs.declared.ends.ShellEnd.TheVariants.{End, InputLimit}

-- holds if a disk is honest and has these bytes
pub record HasBytes (file : List ℕ) (disk : DiskState) : Type 0 where
  pub honest : disk.honest
  pub bytes : bytes_of disk ≡ file

-- holds if these bytes represent the state of a new bench
abbrev pub IsNewFile : List ℕ → Type 0
IsNewFile file = Represents file new_bench_state

-- Holds if this session continues the session in a file: `open` began this session on a new disk
-- with the file's bytes.
pub record ResumesSession (file : List ℕ) (session : SessionView MemDisk) : Type 0 where
  pub disk : MemDisk
  pub fresh_disk : IsFresh file (mem_disk_state disk)
  pub opened : OpenBegins (mem_disk_state disk) (mem_disk_state session.disk) session.live
      session.state

-- Holds if a shell resumed the session in a file, read this input, wrote these answers, and ended
-- with the session `left`.
pub record RunsOnFile (file input : List ℕ) (end : ShellEnd) (answers : List ℕ)
    (left : SessionView MemDisk) : Type 0 where
  pub session : SessionView MemDisk
  pub resumes : ResumesSession file session
  pub rest : Option (List ℕ)
  pub ran : RanShell end (Some input) rest (shell_state mem_disk_state session (Some []))
      (shell_state mem_disk_state left (Some answers))

-- Holds if a shell ran on the session in a file, as in `RunsOnFile`, and the disk of the session
-- `left` has the bytes `after`.
pub record ServesFile (file input : List ℕ) (end : ShellEnd) (answers after : List ℕ) : Type 0 where
  pub left : SessionView MemDisk
  pub run_on_file : RunsOnFile file input end answers left
  pub disk_bytes : HasBytes after (mem_disk_state left.disk)

-- holds if a shell with this end executed all of its input, or as much as the input limit allows
abbrev pub IsAllServed : ShellEnd → Type 0
IsAllServed End = Unit {0}
IsAllServed InputLimit = Unit {0}
IsAllServed end = ⊥

-- Holds if a shell executed all of its input, or as much as the input limit allows, and gave these
-- answers. The shell ended with the session `left`. This session is open, and its disk has the size
-- of the file.
pub record ServesAllInput (file input : List ℕ) (end : ShellEnd) (answers : List ℕ)
    (left : SessionView MemDisk) : Type 0 where
  pub whole : IsAllServed end
  pub run_on_file : RunsOnFile file input end answers left
  pub is_open : IsTrue left.live
  pub size : size_of (mem_disk_state left.disk) ≡ length file

-- Holds if a shell executed the input on the session in the file. The answers are then the first
-- `count` bytes of the buffer, the rest of the buffer is unchanged, and the session's disk has the
-- bytes `after`.
pub record AnswersInBuffer (file input : List ℕ) (end : ShellEnd) (count : ℕ)
    (buffer buffer' after : List ℕ) : Type 0 where
  pub whole : IsAllServed end
  pub within : count ≤ length buffer
  pub served : ServesFile file input end (take count buffer') after
  pub rest : drop count buffer' ≡ drop count buffer

-- Holds if opening a file can fail with this error: because of the file's bytes, or because memory
-- ran out. Opening an in-memory disk cannot fail with any other error.
abbrev pub IsFileRefused : StoreFault → List ℕ → Type 0
IsFileRefused store_fault.NoMemory file = Unit {0}
IsFileRefused store_fault.Device file = ⊥
IsFileRefused store_fault.NotBlank file = ⊥
IsFileRefused fault file = (disk : MemDisk) × IsFresh file (mem_disk_state disk)
    × SessionErrorImplies fault (mem_disk_state disk)

-- Holds if executing this input gives answers of `count` bytes, and the buffer has only `room`
-- bytes, fewer than `count`.
pub record LacksBufferRoom (file input : List ℕ) (count room : ℕ) : Type 0 where
  pub end : ShellEnd
  pub whole : IsAllServed end
  pub answers : List ℕ
  pub after : List ℕ
  pub served : ServesFile file input end answers after
  pub counted : length answers ≡ count
  pub short : room < count

-- holds if a call with this file and this input can fail with this error; `room` is the number of
-- bytes in the buffer
abbrev pub IsServeFault : ServeFault → List ℕ → List ℕ → ℕ → Type 0
IsServeFault (Refused fault) file input room = IsFileRefused fault file
IsServeFault (NoRoom count) file input room = LacksBufferRoom file input count room

-- Holds if a session's disk represents the session's state, and these bytes hold a snapshot of that
-- state and no records.
pub record SettlesTo (session : SessionView MemDisk) (file : List ℕ) : Type 0 where
  pub disk_represents_state : Represents (bytes_of (mem_disk_state session.disk)) session.state
  pub holds : HoldsState file session.state

-- Holds if the old bytes of a file represented a state, and the new bytes hold a snapshot of that
-- state and no records.
pub record RepresentsSameState (old new : List ℕ) : Type 0 where
  pub state : BenchState
  pub before : RepresentsInEitherVersion old state
  pub after : HoldsState new state

-- Holds if a shell executed the input as in `AnswersInBuffer`, and a snapshot of the resulting
-- state then replaced the records of the file.
pub record AnswersAndSettles (file input : List ℕ) (end : ShellEnd) (count : ℕ)
    (buffer buffer' after : List ℕ) : Type 0 where
  pub between : List ℕ
  pub answers : AnswersInBuffer file input end count buffer buffer' between
  pub settled : RepresentsSameState between after
  pub same : settled.state ≡ answers.served.left.state

-- Holds if executing the input would give these answers in the buffer. This condition does not say
-- which bytes the file would then have.
pub record WouldAnswer (file input : List ℕ) (end : ShellEnd) (count : ℕ)
    (buffer buffer' : List ℕ) : Type 0 where
  pub after : List ℕ
  pub answers : AnswersInBuffer file input end count buffer buffer' after
