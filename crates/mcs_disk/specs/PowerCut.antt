-- The disk that a power cut leaves.
use Rattle.std.specs.Prelude.{◌≡◌, ℕ, List}
use Rattle.mcs_disk.specs.Disk.{DiskState, bytes_of, images_of, images_since}

-- Holds if all bytes of the disk are stable: a power cut now, before any further call, leaves
-- exactly the bytes that a read returns.
abbrev pub IsDurable : DiskState → Type 0
IsDurable disk = (image : List ℕ) → images_of disk image → image ≡ bytes_of disk

-- Holds if a power cut on `old`, now or at an earlier moment since `time`, left the honest disk
-- `new`. After an earlier cut, the remaining calls of `old` were never made. The bytes that a read
-- of `new` returns are one of the images that `old` had since `time`, and they are the only image
-- of `new`.
pub record IsLeftByCut (time : ℕ) (old new : DiskState) : Type 0 where
  pub honest : new.honest
  pub found : images_since time old (bytes_of new)
  pub durable : IsDurable new
