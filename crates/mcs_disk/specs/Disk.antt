-- The state of a disk: the bytes that it held at the start, and the calls on it since. Everything
-- else is a function of these two, except the error count and the honesty of the disk.
use Rattle.std.specs.Prelude.{◌≡◌, ◌↔◌, ℕ, ◌+◌, ◌-◌, ◌^◌, min, List, ◌++◌, length}
use Rattle.mcs_disk.specs.Calls.{DiskCall, bytes_after, images_after, clock_of, images_after_since}
pub use Rattle.mcs_disk.specs.Calls.{part, put, Torn}

-- the state of a disk: everything that a contract can see of it
pub record DiskState : Type 1 where
  -- the number of failed calls, saturating at `max_fault_count`
  pub faults : ℕ
  -- The premise that the device is honest. If the premise holds, a read that returns Ok returns the
  -- bytes of `bytes_of` in its range. Each kind of disk states its own premise.
  pub honest : Type 0
  -- the bytes before any call; a power cut before the first call leaves exactly these bytes
  pub start : List ℕ
  -- the calls on the disk, newest first
  pub calls : List DiskCall

-- the disk's size in bytes, which no call changes
abbrev pub size_of : DiskState → ℕ
size_of disk = length disk.start

-- the bytes that a read returns if the disk is honest
abbrev pub bytes_of : DiskState → List ℕ
bytes_of disk = bytes_after disk.start disk.calls

-- holds if a power cut at this moment can leave these bytes (the module PowerCut defines the disk
-- that is found after the cut)
abbrev pub images_of : DiskState → List ℕ → Type 0
images_of disk = images_after disk.start disk.calls

-- the disk's clock in ticks: the number of calls that have returned Ok
abbrev pub time_of : DiskState → ℕ
time_of disk = clock_of disk.calls

-- Holds if a power cut now can leave these bytes, or if a cut at some moment since `time` could
-- have left them. (A cut during a write leaves one of the images after the write. A cut during a
-- read or a sync leaves one of the images before it.)
abbrev pub images_since : ℕ → DiskState → List ℕ → Type 0
images_since time disk = images_after_since disk.start disk.calls time

-- the maximum of a disk's error count
abbrev pub max_fault_count : ℕ
max_fault_count = 2 ^ 64 - 1

-- Holds if the initial bytes and the honesty of a disk are the same in `old` and `new`, and the
-- error count rises by one, up to `max_fault_count`, if `failed` holds. Otherwise the error count
-- stays the same. `failed` states that a call failed; it is `⊥` if none did.
pub record CountsFault (old new : DiskState) (failed : Type 0) : Type 0 where
  pub start : new.start ≡ old.start
  pub honest : new.honest ↔ old.honest
  pub fault : failed → new.faults ≡ min (old.faults + 1) max_fault_count
  pub no_fault : ¬ failed → new.faults ≡ old.faults

-- Holds if `new` is later than `old`: both have the same initial bytes, and the calls of `new` are
-- those of `old`, possibly followed by more. `IsLater` states nothing about the error count or the
-- honesty of the disk (`CountsFault` does).
pub record IsLater (old new : DiskState) : Type 0 where
  pub start : new.start ≡ old.start
  pub added : List DiskCall
  pub all : new.calls ≡ added ++ old.calls
