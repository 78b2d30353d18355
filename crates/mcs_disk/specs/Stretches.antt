-- A stretch of calls leads from one state of a disk to a later state. This module counts the writes
-- of a stretch, and states which bytes a power cut at any moment of the stretch can leave.
use Rattle.std.specs.Prelude.{◌≡◌, ◌⊎◌, ℕ, ◌+◌, List, [], ◌∷◌}
use Rattle.mcs_disk.specs.Calls.{DiskCall, WasRead, Wrote, Failed, Synced}
use Rattle.mcs_disk.specs.Disk.{DiskState, IsLater, images_since, time_of}

-- the number of writes in the list, including failed writes
abbrev pub writes_of : List DiskCall → ℕ
writes_of [] = 0
writes_of (WasRead ∷ calls) = writes_of calls
writes_of (Wrote at bytes ∷ calls) = writes_of calls + 1
writes_of (Failed at tried seen ∷ calls) = writes_of calls + 1
writes_of (Synced ∷ calls) = writes_of calls

-- Holds if the lists of `old` and `new` contain the same number of writes. If `new` is also later
-- than `old` (not stated here), no further write returned Ok, whether the disk is honest or not. On
-- an honest disk, no failed write has had any effect either.
abbrev pub WritesNothing : DiskState → DiskState → Type 0
WritesNothing old new = writes_of new.calls ≡ writes_of old.calls

-- Holds if `new` is later than `old`, and only reads and syncs were added to its list of calls.
-- They change no byte and add no image that a power cut could leave.
pub record AddsNoImage (old new : DiskState) : Type 0 where
  pub later : IsLater old new
  pub writes_nothing : WritesNothing old new

-- holds if `new` is later than `old`, and every image that a power cut at some moment since `old`
-- can leave satisfies `P`
pub record LeavesOnly (old new : DiskState) (P : List ℕ → Type 0) : Type 0 where
  pub later : IsLater old new
  pub each : (image : List ℕ) → images_since (time_of old) new image → P image

-- holds if `image` satisfies `P` or `Q`
abbrev pub SatisfiesEither : (List ℕ → Type 0) → (List ℕ → Type 0) → List ℕ → Type 0
SatisfiesEither P Q image = P image ⊎ Q image
