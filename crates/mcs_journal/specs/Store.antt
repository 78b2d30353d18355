-- The state of a store as contracts see it, and the invariant of its fields. (Defined by Fethsaim,
-- not by Intel.)
use Rattle.std.specs.Prelude.{◌≡◌, ℕ, ◌+◌, ◌≤◌, Bool, List, length, IsTrue}
use Rattle.mcs_disk.specs.CallList.{unsynced_writes}
use Rattle.mcs_disk.specs.Disk.{DiskState, bytes_of, size_of}
use Rattle.mcs_disk.specs.PowerCut.{IsDurable}
use Rattle.mcs_journal.specs.File.{Holds, slot_of, frames_of}
use Rattle.mcs_journal.specs.declared.format.TheConstants.{FILE_SIZE, LOG_SIZE, AREA_WITH_COMMIT_SIZE}
use Rattle.mcs_journal.specs.declared.slot.Slot.{Slot}

-- a store as contracts see it, on a disk of type D
pub record StoreView (D : Type 0) : Type 0 where
  pub disk : D
  -- true if no call on the store has returned `DiskFault`
  pub live : Bool
  -- the active slot, which holds the snapshot and the log
  pub slot : Slot
  -- the number of bytes that the frames of the records occupy in the log
  pub used : ℕ

-- The invariant of an open store on an honest disk. The disk is durable, its selector selects the
-- slot `slot`, and it holds a snapshot and records. `used` is the number of bytes that the frames
-- of the records occupy.
pub record IsIntactStore (disk : DiskState) (slot : Slot) (used : ℕ) : Type 0 where
  pub durable : IsDurable disk
  pub active : slot_of (bytes_of disk) ≡ slot
  pub snap : List ℕ
  pub records : List (List ℕ)
  pub holds : Holds (bytes_of disk) snap records
  pub count : used ≡ length (frames_of records)

-- The invariant of a store on any disk. The disk has the size of a session file, and the log has
-- room for one more commit byte. The buffer has the size of a snapshot area and a commit byte. If
-- the store is open, all writes on the disk are synced; if the disk is also honest, the store is
-- intact.
pub record IsStore (disk : DiskState) (live : Bool) (slot : Slot) (used : ℕ) (buffer : List ℕ)
    : Type 0 where
  pub disk_size : size_of disk ≡ FILE_SIZE
  pub within : used + 1 ≤ LOG_SIZE
  pub room : length buffer ≡ AREA_WITH_COMMIT_SIZE
  pub synced : IsTrue live → unsynced_writes disk.calls ≡ 0
  pub intact : IsTrue live → disk.honest → IsIntactStore disk slot used
