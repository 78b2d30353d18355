-- The parts of a session file, as the contracts of the reading and writing functions use them.
use Rattle.std.specs.Prelude.{◌≡◌, ℕ, ◌+◌, ◌≤◌, List, ◌⊎◌, length, slice_index, Result, OnOk}
use Rattle.mcs_disk.specs.Disk.{DiskState, IsLater, part, Torn, bytes_of, time_of, images_of, images_since}
use Rattle.mcs_disk.specs.PowerCut.{IsDurable}
use Rattle.mcs_journal.specs.File.{IsRecord, frame_of, frames_of, slot_at, be32, slot_of}
use Rattle.mcs_journal.specs.declared.format.TheConstants.{AREA_SIZE, LOG_SIZE, MAX_SNAPSHOT_SIZE, NAME, AREA_WITH_COMMIT_SIZE, ZEROS}
use Rattle.mcs_journal.specs.declared.slot.Slot.{Slot}
use Rattle.mcs_journal.specs.declared.slot.Slot.TheVariants.{A, B}

abbrev pub other_slot : Slot → Slot
other_slot A = B
other_slot B = A

-- the selector value that a store writes to select a slot
abbrev pub selector_of : Slot → ℕ
selector_of A = 0
selector_of B = 1

-- Holds if `commit_at` is the offset of the commit byte after the last record, and the log has room
-- for one more record of `n` bytes.
pub record IsCommitOffset (file : List ℕ) (records : List (List ℕ)) (commit_at n : ℕ) : Type 0 where
  pub at : commit_at ≡ slot_at file + AREA_SIZE + length (frames_of records)
  pub room : length (frames_of records) + n + 4 ≤ LOG_SIZE

-- holds if the frame of the record `r`, with its commit byte of 1, starts at the offset `at`
pub record IsRecordAt (file : List ℕ) (at : ℕ) (r : List ℕ) : Type 0 where
  pub valid_length : IsRecord r
  pub is : part at (length r + 3) file ≡ frame_of r

-- Holds if the commit byte at the offset `at` is 1, but no record that fits follows. A record fits
-- if its frame and the next commit byte have at most `room` bytes.
pub record HasNoRecordAt (file : List ℕ) (at room : ℕ) : Type 0 where
  pub opened : slice_index file at ≡ 1
  pub none : (r : List ℕ) → length r + 4 ≤ room → IsRecordAt file at r → ⊥

-- holds if `area` is the snapshot area of this snapshot, followed by a commit byte of 0; a store
-- writes both at once
pub record IsArea (snap area : List ℕ) : Type 0 where
  pub long : length area ≡ AREA_WITH_COMMIT_SIZE
  pub within_limit : length snap ≤ MAX_SNAPSHOT_SIZE
  pub snap_length : part 0 4 area ≡ be32 (length snap)
  pub snap_bytes : part 4 (length snap) area ≡ snap
  pub ends_log : slice_index area AREA_SIZE ≡ 0

-- holds if the file begins with a valid header, and its selector selects this slot
pub record IsHeader (file : List ℕ) (slot : Slot) : Type 0 where
  pub name : part 0 8 file ≡ NAME
  pub zeros : part 9 7 file ≡ ZEROS
  pub active : slot_of file ≡ slot

-- holds if the slot that starts at this offset holds this snapshot
pub record IsSnapshot (file : List ℕ) (start : ℕ) (snap : List ℕ) : Type 0 where
  pub within_limit : length snap ≤ MAX_SNAPSHOT_SIZE
  pub snap_length : part start 4 file ≡ be32 (length snap)
  pub snap_bytes : part (start + 4) (length snap) file ≡ snap

-- The effect of a write of these bytes, followed by a sync. Each image since the write began is an
-- image from before the write, or differs from such an image only in the written range.
pub record CommitsBytes {T E : Type 0} (at : ℕ) (bytes : List ℕ) (old new : DiskState)
    (result : Result T E) : Type 0 where
  pub written : OnOk result (part at (length bytes) (bytes_of new) ≡ bytes)
  pub outside : Torn at (length bytes) (bytes_of old) (bytes_of new)
  pub durable : OnOk result (IsDurable new)
  pub ticks : OnOk result (time_of new ≡ time_of old + 2)
  pub later : IsLater old new
  pub each : (image : List ℕ) → images_since (time_of old) new image
      → images_of old image
      ⊎ ((before : List ℕ) × images_of old before × Torn at (length bytes) before image)
