-- The state in which a session is opened, and the condition that an error of `open` implies for the
-- disk.
use Rattle.mcs_disk.specs.Disk.{DiskState, bytes_of}
use Rattle.mcs_journal.specs.File.{IsNotSessionFile}
use Rattle.mcs_journal.specs.declared.fault.StoreFault.{StoreFault}
use Rattle.mcs_journal.specs.declared.fault.StoreFault.TheVariants as store_fault
use Rattle.mcs_model.specs.BenchState.{BenchState}
use Rattle.mcs_session.specs.Represents.{DiskRepresents, RepresentsInEitherVersion}

-- Holds if `open` succeeded with the state `s`. The bytes of the disk `old` represented this state,
-- in either version. Each image that a power cut can leave on the disk `new` represents the same
-- state in version 2.
pub record OpensSession (old new : DiskState) (s : BenchState) : Type 0 where
  pub represented_before : RepresentsInEitherVersion (bytes_of old) s
  pub represents : DiskRepresents new s

-- The condition that an error of `open` implies for an honest disk before the call. For
-- `NotASession`, the disk holds no session file. For `Damaged`, its bytes represent no state.
-- `Device` and `NoMemory` imply nothing, and `open` never returns `NotBlank`.
abbrev pub SessionErrorImplies : StoreFault → DiskState → Type 0
SessionErrorImplies store_fault.NotASession disk = IsNotSessionFile disk
SessionErrorImplies store_fault.Damaged disk =
    ¬ (IsNotSessionFile disk) × ((s : BenchState) → ¬ (RepresentsInEitherVersion (bytes_of disk) s))
SessionErrorImplies store_fault.Device disk = Unit {0}
SessionErrorImplies store_fault.NoMemory disk = Unit {0}
SessionErrorImplies store_fault.NotBlank disk = ⊥
