-- The effect of a store's calls on its disk. Only the contracts of single calls use this module.
use Rattle.std.specs.Prelude.{◌≡◌, ℕ, ◌+◌, List, Result, OnOk}
use Rattle.mcs_disk.specs.Disk.{CountsFault, DiskState, bytes_of, time_of}
use Rattle.mcs_disk.specs.Stretches.{AddsNoImage, SatisfiesEither, LeavesOnly}
use Rattle.mcs_disk.specs.PowerCut.{IsDurable}

-- Holds if only reads and syncs were added to the list of calls between `old` and `new`. The error
-- count rose by one if `failed` holds, and stayed the same otherwise.
pub record ReadsOnly (old new : DiskState) (failed : Type 0) : Type 0 where
  pub counts : CountsFault old new failed
  pub adds_no_image : AddsNoImage old new

-- Holds if a call changes the contents of the disk from `Before` to `After`. A power cut at any
-- moment between `old` and `new` leaves bytes that satisfy `Before` or `After`. If the call
-- returned Ok, it took `count` ticks; the bytes of the disk then satisfy `After` and are durable.
pub record Changes {T E : Type 0} (count : ℕ) (old new : DiskState)
    (Before After : List ℕ → Type 0) (result : Result T E) : Type 0 where
  pub after : OnOk result (After (bytes_of new))
  pub durable : OnOk result (IsDurable new)
  pub ticks : OnOk result (time_of new ≡ time_of old + count)
  pub leaves : LeavesOnly old new (SatisfiesEither Before After)
