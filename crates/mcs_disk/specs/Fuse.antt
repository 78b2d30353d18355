-- The calls that a `FuseDisk` fails, and those that it passes on to the wrapped disk.
use Rattle.std.specs.Prelude.{◌≡◌, ◌↔◌, ℕ, ◌+◌, ◌≤◌, IsErr, IsOk, Result}
use Rattle.mcs_disk.specs.Disk.{CountsFault}
use Rattle.mcs_disk.specs.States.{mem_disk_state}
use Rattle.mcs_disk.specs.declared.fuse.Fuse.{Fuse}
use Rattle.mcs_disk.specs.declared.fuse.Fuse.TheVariants.{NeverFails, FailsAllAfter, FailsOneAfter}
use Rattle.mcs_disk.specs.declared.fuse.FuseDisk.{FuseDisk}
use Rattle.mcs_disk.specs.declared.memory.MemDisk.{MemDisk}

-- holds if the schedule fails the call that follows the next `n` calls
abbrev pub Fails : Fuse → ℕ → Type 0
Fails NeverFails n = ⊥
Fails (FailsAllAfter passed) n = passed ≤ n
Fails (FailsOneAfter passed) n = n ≡ passed

-- holds if the disk fails the call that follows the next `n` calls, without passing it on
abbrev pub FailsAfter : FuseDisk → ℕ → Type 0
FailsAfter disk n = Fails disk.fuse n

-- the wrapped disk, which receives the calls that are passed on
abbrev pub inner_disk : FuseDisk → MemDisk
inner_disk disk = disk.disk

-- The effect of a call on a `FuseDisk`. If the fuse fails the call, the result is an error and the
-- wrapped disk is unchanged. Otherwise the wrapped disk answers the call with Ok. In both cases the
-- fuse advances by one call.
pub record FuseCall {T E : Type 0} (old new : FuseDisk) (result : Result T E) : Type 0 where
  pub fails : FailsAfter old 0 → IsErr result
  pub inner_unchanged : FailsAfter old 0 → inner_disk new ≡ inner_disk old
  -- if the call is passed on, the error count of the wrapped disk rises only if the result is an
  -- error
  pub passed_on : ¬ (FailsAfter old 0)
      → CountsFault (mem_disk_state (inner_disk old)) (mem_disk_state (inner_disk new))
      (IsErr result)
  pub answered : ¬ (FailsAfter old 0) → IsOk result
  pub later : (n : ℕ) → FailsAfter new n ↔ FailsAfter old (n + 1)
