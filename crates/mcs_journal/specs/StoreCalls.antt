-- The results of `create` and `open`, for each error and for success, in terms of the disk's
-- contents. (Defined by Fethsaim, not by Intel.)
use Rattle.std.specs.Prelude.{◌≡◌, ◌+◌, ℕ, List, []}
use Rattle.mcs_disk.specs.Disk.{DiskState, bytes_of, time_of, IsLater}
use Rattle.mcs_disk.specs.Stretches.{AddsNoImage}
use Rattle.mcs_disk.specs.PowerCut.{IsDurable}
use Rattle.mcs_journal.specs.File.{Holds, IsBlank, IsNotSessionFile}
use Rattle.mcs_journal.specs.declared.fault.StoreFault.{StoreFault}
use Rattle.mcs_journal.specs.declared.fault.StoreFault.TheVariants as store_fault

-- holds if the bytes of the disk do not hold any snapshot with its records
abbrev pub HoldsNoContents : DiskState → Type 0
HoldsNoContents disk = (snap : List ℕ) (records : List (List ℕ)) → Holds (bytes_of disk) snap records → ⊥

-- holds if `create` can return this error
abbrev pub IsCreateFault : StoreFault → Type 0
IsCreateFault store_fault.NotBlank = Unit {0}
IsCreateFault store_fault.Device = Unit {0}
IsCreateFault store_fault.NoMemory = Unit {0}
IsCreateFault store_fault.NotASession = ⊥
IsCreateFault store_fault.Damaged = ⊥

-- holds if `open` can return this error
abbrev pub IsOpenFault : StoreFault → Type 0
IsOpenFault store_fault.NotASession = Unit {0}
IsOpenFault store_fault.Damaged = Unit {0}
IsOpenFault store_fault.Device = Unit {0}
IsOpenFault store_fault.NoMemory = Unit {0}
IsOpenFault store_fault.NotBlank = ⊥

-- the condition that an error of `open` implies for an honest disk before the call
abbrev pub OpenErrorImplies : StoreFault → DiskState → Type 0
OpenErrorImplies store_fault.NotASession disk = IsNotSessionFile disk
OpenErrorImplies store_fault.Damaged disk = ¬ (IsNotSessionFile disk) × HoldsNoContents disk
OpenErrorImplies store_fault.Device disk = Unit {0}
OpenErrorImplies store_fault.NoMemory disk = Unit {0}
OpenErrorImplies store_fault.NotBlank disk = ⊥

-- holds if a successful `open` found this snapshot and these records on the disk `old`, wrote
-- nothing, and left the disk durable
pub record OpensStore (old new : DiskState) (snap : List ℕ) (records : List (List ℕ)) : Type 0 where
  pub holds : Holds (bytes_of old) snap records
  pub adds_no_image : AddsNoImage old new
  pub durable : IsDurable new

-- the condition that an error of `create` implies for an honest disk before and after the call
abbrev pub CreateErrorImplies : StoreFault → DiskState → DiskState → Type 0
CreateErrorImplies store_fault.NotBlank old new = ¬ (IsBlank old) × AddsNoImage old new
CreateErrorImplies store_fault.Device old new = IsLater old new
CreateErrorImplies store_fault.NoMemory old new = Unit {0}
CreateErrorImplies store_fault.NotASession old new = ⊥
CreateErrorImplies store_fault.Damaged old new = ⊥

-- holds if a successful `create` found a blank disk and, five ticks later, left it durable with
-- this snapshot and no records
pub record CreatesStore (old new : DiskState) (snap : List ℕ) : Type 0 where
  pub blank : IsBlank old
  pub holds : Holds (bytes_of new) snap []
  pub durable : IsDurable new
  pub ticks : time_of new ≡ time_of old + 5
  pub later : IsLater old new
