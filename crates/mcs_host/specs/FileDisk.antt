-- The state of a file of the host, seen as a disk.
use Rattle.std.specs.Prelude.{◌≡◌, ◌<ℤ◌, ℕ, ℤ, [], pos}
use Rattle.mcs_disk.specs.Disk.{DiskState}
use Rattle.mcs_disk.specs.Calls.{images_after}
use Rattle.mcs_disk.specs.NotedCalls.{calls_in}
use Rattle.mcs_disk.specs.declared.call_record.Call.{Call}
use Rattle.mcs_disk.specs.declared.record.Record.{Record}

-- The premise that a file is honest. An open file ends with a close, a process kill or a power cut.
-- The bytes found in the file at its next opening are an image that the calls before the end can
-- leave. The premise is about the host, and about other programs that write the file without
-- requesting its lock. A write that the end interrupted counts as a failed call.
abbrev pub IsHonest : Record Call → Record Call → Type 0
IsHonest history end = images_after history.start (calls_in end.notes) end.start

-- the state of a disk whose bytes are in a file, given the disk's error count and record of calls,
-- and the end of the file
abbrev pub file_state : ℕ → Record Call → Record Call → DiskState
file_state faults history end = record {
  faults = faults;
  honest = IsHonest history end;
  start = history.start;
  calls = calls_in history.notes;
}

-- holds if a file descriptor is above 2, so that it is not the descriptor of a standard stream
abbrev pub IsNotStandardStream : ℤ → Type 0
IsNotStandardStream number = pos 2 <ℤ number

-- holds if no call has been made on the disk; a power cut then leaves exactly its bytes
pub record HasNoCalls (disk : DiskState) : Type 0 where
  pub faults : disk.faults ≡ 0
  pub calls : disk.calls ≡ []
