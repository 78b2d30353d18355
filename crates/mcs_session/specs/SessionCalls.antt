-- The effect that creating a session and opening a session have on the disk.
use Rattle.std.specs.Prelude.{◌≡◌, ◌⊎◌, ◌+◌}
use Rattle.mcs_disk.specs.Disk.{DiskState, bytes_of, time_of, images_of, IsLater}
use Rattle.mcs_disk.specs.Stretches.{SatisfiesEither, LeavesOnly, AddsNoImage}
use Rattle.mcs_journal.specs.File.{IsBlank}
use Rattle.mcs_journal.specs.declared.fault.StoreFault.{StoreFault}
use Rattle.mcs_journal.specs.declared.fault.StoreFault.TheVariants as store_fault
use Rattle.mcs_model.specs.BenchState.{BenchState, new_bench_state}
use Rattle.mcs_session.specs.Represents.{HoldsState, DiskRepresents, RepresentsInEitherVersion, Represents}
use Rattle.mcs_session.specs.Version1.{RepresentsConverted}

-- holds if `create` succeeded: the disk was blank, and five ticks later every image of it
-- represents the state of a new bench
pub record CreatesSession (old new : DiskState) : Type 0 where
  pub blank : IsBlank old
  pub represents : DiskRepresents new new_bench_state
  pub ticks : time_of new ≡ time_of old + 5
  pub later : IsLater old new

-- Holds if a power cut between the two disk states leaves an image of `old`, or a file that
-- represents this bench state in either version.
abbrev pub LeavesOldImageOrState : DiskState → DiskState → BenchState → Type 0
LeavesOldImageOrState old new s =
    LeavesOnly old new (SatisfiesEither (images_of old) (λ file. RepresentsInEitherVersion file s))

-- The effect that opening a session in the state `s` has on the disk. No call writes to a file of
-- version 2. In a file of version 1, a snapshot of version 2 replaces the contents.
pub record MigratesSession (old new : DiskState) (s : BenchState) : Type 0 where
  pub leaves : LeavesOldImageOrState old new s
  pub adds_no_image : Represents (bytes_of old) s → AddsNoImage old new
  pub migrated : RepresentsConverted (bytes_of old) s → HoldsState (bytes_of new) s

-- Holds if the file on `old` represents a state in version 1. A power cut between `old` and `new`
-- leaves an image of `old`, or a file that represents the same state in either version.
-- (`FailedOpenEffect` uses this record if the device failed while the contents were replaced.)
pub record FailsDuringMigration (old new : DiskState) : Type 0 where
  pub state : BenchState
  pub represents : RepresentsConverted (bytes_of old) state
  pub leaves : LeavesOldImageOrState old new state

-- The effect of a failed `open` on the disk. Only reads and syncs were made, unless the device
-- failed while the contents of a file of version 1 were replaced.
abbrev pub FailedOpenEffect : StoreFault → DiskState → DiskState → Type 0
FailedOpenEffect store_fault.Device old new = AddsNoImage old new ⊎ FailsDuringMigration old new
FailedOpenEffect fault old new = AddsNoImage old new
