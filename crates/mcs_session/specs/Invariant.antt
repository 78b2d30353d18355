-- The invariant of a session's fields, and the effects of the functions that implement a session.
use Rattle.std.specs.Prelude.{◌≡◌, ◌+◌, ◌≤◌, ℕ, List, [], Bool, IsTrue, Result, length, if◌then◌else◌}
use Rattle.mcs_disk.specs.Disk.{DiskState, bytes_of, time_of}
use Rattle.mcs_disk.specs.Changes.{Changes}
use Rattle.mcs_disk.specs.Stretches.{SatisfiesEither, LeavesOnly}
use Rattle.mcs_disk.specs.PowerCut.{IsDurable}
use Rattle.mcs_journal.specs.File.{Holds}
use Rattle.mcs_journal.specs.declared.format.TheConstants.{MAX_RECORD_SIZE, MAX_SNAPSHOT_SIZE}
use Rattle.mcs_model.specs.declared.limits.TheConstants.{REPLAY_CYCLES}
use Rattle.mcs_model.specs.BenchState.{BenchState}
use Rattle.mcs_model.specs.declared.command.Command.{Command}
use Rattle.mcs_codec.specs.declared.versions.Version.{Version}
use Rattle.mcs_session.specs.Cycles.{log_cycles}
use Rattle.mcs_session.specs.Log.{LogHolds, has_room_for, recording_ticks}
use Rattle.mcs_session.specs.Represents.{HoldsState, RecordsRepresent, Represents}

-- The invariant of the honest disk of an open session. The disk is durable, and its bytes represent
-- the state `s` of the bench. `cycles` is the cycle count of the log on the disk.
pub record IsRecorded (disk : DiskState) (cycles : ℕ) (s : BenchState) : Type 0 where
  pub durable : IsDurable disk
  pub represents : Represents (bytes_of disk) s
  pub count : cycles ≡ log_cycles represents.records_represent.commands

-- Holds if the buffers have the sizes of the longest record and of the longest snapshot, and the
-- cycle count is within the limit of a log.
pub record IsReady (cycles : ℕ) (payload snapshot : List ℕ) : Type 0 where
  pub payload_size : length payload ≡ MAX_RECORD_SIZE
  pub snapshot_size : length snapshot ≡ MAX_SNAPSHOT_SIZE
  pub within : cycles ≤ REPLAY_CYCLES

-- The invariant of a session. Its buffers are ready (`IsReady`). If the session is open and its
-- disk is honest, the disk has recorded the state of the bench (`IsRecorded`).
pub record IsSession
    (disk : DiskState) (live : Bool) (cycles : ℕ) (s : BenchState)
    (payload snapshot : List ℕ) : Type 0 where
  pub ready : IsReady cycles payload snapshot
  pub recorded : IsTrue live → disk.honest → IsRecorded disk cycles s

-- holds if a snapshot and records of this version represent this state, and `cycles` is the cycle
-- count of the records
pub record IsReplayed
    (version : Version) (snap : List ℕ) (records : List (List ℕ)) (cycles : ℕ)
    (s : BenchState) : Type 0 where
  pub records_represent : RecordsRepresent version snap records s
  pub count : cycles ≡ log_cycles records_represent.commands

-- Holds if the log has room for the record of the command `c`. If there was room before, no ticks
-- have passed. Otherwise, a snapshot of the state replaced all records in four ticks. The disk
-- still represents the same state, and `cycles` is the cycle count of the log on the disk `new`.
pub record HasMadeRoom (old new : DiskState) (c : Command) (cycles : ℕ) (s : BenchState) : Type 0 where
  pub log : List Command
  pub held : LogHolds (bytes_of old) log
  pub ticks : time_of new + 4 ≡ time_of old + recording_ticks log c
  pub holds : LogHolds (bytes_of new) (if has_room_for log c then log else [])
  pub recorded : IsRecorded new cycles s

-- holds if the bytes of the disk hold some snapshot and some records
pub record HasContents (disk : DiskState) : Type 0 where
  pub snap : List ℕ
  pub records : List (List ℕ)
  pub holds : Holds (bytes_of disk) snap records

-- Holds if a power cut between the two disk states leaves either the old snapshot and records, or a
-- snapshot of this bench state and no records.
abbrev pub MayReplaceContents : DiskState → DiskState → List ℕ → List (List ℕ) → BenchState → Type 0
MayReplaceContents old new snap records s =
    LeavesOnly old new (SatisfiesEither (λ c. Holds c snap records) (λ c. HoldsState c s))

-- holds if the contents were replaced: `MayReplaceContents` holds, and the disk `new` is durable
-- and holds a snapshot of this state and no records
pub record ReplacedContents
    (old new : DiskState) (snap : List ℕ) (records : List (List ℕ)) (s : BenchState) : Type 0 where
  pub leaves : MayReplaceContents old new snap records s
  pub held : HoldsState (bytes_of new) s
  pub durable : IsDurable new

-- Holds if a call that returns Ok replaces any snapshot and records on the disk with a snapshot of
-- this state, in four ticks. A power cut during the call leaves the old or the new contents.
abbrev pub ReplacesAnyContents : {T E : Type 0} → DiskState → DiskState → BenchState → Result T E → Type 0
ReplacesAnyContents old new s result =
    (snap : List ℕ) (records : List (List ℕ)) → Holds (bytes_of old) snap records
    → Changes 4 old new (λ c. Holds c snap records) (λ c. HoldsState c s) result

-- holds if `MayReplaceContents` holds for any snapshot and records that the disk `old` holds
abbrev pub MayReplaceAnyContents : DiskState → DiskState → BenchState → Type 0
MayReplaceAnyContents old new s =
    (snap : List ℕ) (records : List (List ℕ)) → Holds (bytes_of old) snap records
    → MayReplaceContents old new snap records s

-- holds if `ReplacedContents` holds for any snapshot and records that the disk `old` holds
abbrev pub ReplacedAnyContents : DiskState → DiskState → BenchState → Type 0
ReplacedAnyContents old new s =
    (snap : List ℕ) (records : List (List ℕ)) → Holds (bytes_of old) snap records
    → ReplacedContents old new snap records s
