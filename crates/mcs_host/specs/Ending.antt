-- The end of an open file (a close, a process kill or a power cut), and the bytes that are found in
-- the file at its next opening.
use Rattle.std.specs.Prelude.{◌≡◌, ◌⊎◌, ℕ, ◌≤◌, List, [], ◌∷◌, ◌++◌}
use Rattle.mcs_disk.specs.Calls.{DiskCall, Wrote, Failed, clock_of, images_after}
use Rattle.mcs_disk.specs.Disk.{DiskState}
use Rattle.mcs_disk.specs.NotedCalls.{calls_in}
use Rattle.mcs_host.specs.HostCalls.{HostState}
use Rattle.mcs_host.specs.HostDisk.{host_disk}
use Rattle.mcs_host.specs.SystemFile.{system_state}
use Rattle.mcs_host.specs.declared.file_disk.FileDisk.{FileDisk}

-- the state of a session file, seen as a disk
abbrev pub as_disk : FileDisk → DiskState
as_disk file = host_disk file.inner_disk

-- the state of a session file, seen as an open file of the host
abbrev pub as_host_file : FileDisk → HostState
as_host_file file = system_state file.inner_disk.file

-- the bytes that are found in the file at its next opening, after a close, a process kill or a
-- power cut
abbrev pub bytes_found_in : FileDisk → List ℕ
bytes_found_in file = file.inner_disk.end.start

-- holds if the newest of `calls` is a write, and `cut` is the same list with a failed call in place
-- of that write
pub record IsInterruptedInWrite (calls cut : List DiskCall) : Type 0 where
  pub at : ℕ
  pub bytes : List ℕ
  pub before : List DiskCall
  pub ends_in_write : calls ≡ Wrote at bytes ∷ before
  pub torn : cut ≡ Failed at bytes [] ∷ before

-- Holds if the open file ended after the calls `calls_made`, an initial part of all its calls. The
-- disk's clock was then at `time` or later. Lists of calls are newest first, so the initial part is
-- the tail of the list. If the newest call of `calls_made` is a write, the end can have interrupted
-- it.
pub record IsLeftSince (time : ℕ) (file : FileDisk) : Type 0 where
  pub calls_not_made : List DiskCall
  pub calls_made : List DiskCall
  pub all : calls_in file.inner_disk.history.notes ≡ calls_not_made ++ calls_made
  pub calls_before_end : (calls_in file.inner_disk.end.notes ≡ calls_made)
      ⊎ IsInterruptedInWrite calls_made (calls_in file.inner_disk.end.notes)
  pub clock_reached : time ≤ clock_of (calls_in file.inner_disk.end.notes)

-- Holds if the bytes found in the file at its next opening are an image that the calls before the
-- end can leave. This is what `IsHonest` states for the file.
abbrev pub IsFoundAfterTheEnd : FileDisk → Type 0
IsFoundAfterTheEnd file =
    images_after file.inner_disk.history.start (calls_in file.inner_disk.end.notes) (bytes_found_in file)

-- Holds if `twin` and `file` have given the same answers to all calls. In addition, the open file
-- `twin` ended after all of its calls, and the bytes `image` are found in it at its next opening.
pub record AgreesButEndsWith (image : List ℕ) (file twin : FileDisk) : Type 0 where
  pub faults : twin.inner_disk.faults ≡ file.inner_disk.faults
  pub bytes : twin.inner_disk.bytes.items ≡ file.inner_disk.bytes.items
  pub start : twin.inner_disk.history.start ≡ file.inner_disk.history.start
  pub calls : calls_in twin.inner_disk.history.notes ≡ calls_in file.inner_disk.history.notes
  pub same_host_state : as_host_file twin ≡ as_host_file file
  pub stable : twin.inner_disk.is_name_stable ≡ file.inner_disk.is_name_stable
  pub calls_before_end : calls_in twin.inner_disk.end.notes ≡ calls_in file.inner_disk.history.notes
  pub found : bytes_found_in twin ≡ image
