-- The state that a session file represents. For a file of version 1, the definitions of version 1
-- determine the state. This state is then converted to version 2 (`RepresentsConverted` in
-- Version1). Some definitions here have a version as an argument. For version 1, the state of the
-- snapshot is converted first, and the records can only have commands of version 1. The rules of
-- version 2 then determine whether each command is accepted, and what it does.
use Rattle.std.specs.Prelude.{◌≡◌, ◌⊎◌, ◌≤◌, ℕ, List, [], ◌∷◌, None}
use Rattle.mcs_codec.specs.Codec.{EncodesCommandBy, EncodesState, EncodesStateBy}
use Rattle.mcs_codec.specs.declared.versions.Version.{Version}
use Rattle.mcs_codec.specs.declared.versions.Version.TheVariants.{Two}
use Rattle.mcs_disk.specs.Disk.{DiskState, images_of, images_since}
use Rattle.mcs_journal.specs.File.{Holds}
use Rattle.mcs_model.specs.declared.command.Command.{Command}
use Rattle.mcs_session.specs.Cycles.{log_cycles}
use Rattle.mcs_session.specs.Version1.{RepresentsConverted}
use Rattle.mcs_model.specs.declared.limits.TheConstants.{REPLAY_CYCLES}
use Rattle.mcs_model.specs.BenchState.{BenchState}
use Rattle.mcs_model.specs.Command.{refusal, after}
use Rattle.mcs_model.specs.Fold.{fold}

-- holds if each record encodes the command at the same index, and each command is accepted in the
-- state after the commands before it
abbrev pub ReplaysCommands : Version → BenchState → List (List ℕ) → List Command → Type 0
ReplaysCommands version s [] [] = Unit {0}
ReplaysCommands version s [] (c ∷ cs) = ⊥
ReplaysCommands version s (r ∷ rs) [] = ⊥
ReplaysCommands version s (r ∷ rs) (c ∷ cs) =
    EncodesCommandBy version r c × (refusal s c ≡ None) × ReplaysCommands version (after s c) rs cs

-- Holds if a snapshot and the records after it represent the state `s` in this version. The
-- commands of the records lead from the snapshot's state to `s`, and their cycle count is within
-- the limit of a log.
pub record RecordsRepresent
    (version : Version) (snap : List ℕ) (records : List (List ℕ)) (s : BenchState) : Type 0 where
  pub start : BenchState
  pub snapshot : EncodesStateBy version snap start
  pub commands : List Command
  pub replays : ReplaysCommands version start records commands
  pub bounded : log_cycles commands ≤ REPLAY_CYCLES
  pub state : s ≡ fold start commands

-- holds if the snapshot and the records of a file of version 2 represent the state `s`
pub record Represents (file : List ℕ) (s : BenchState) : Type 0 where
  pub snap : List ℕ
  pub records : List (List ℕ)
  pub holds : Holds file snap records
  pub records_represent : RecordsRepresent Two snap records s

-- holds if a file, of version 1 or version 2, represents this state
abbrev pub RepresentsInEitherVersion : List ℕ → BenchState → Type 0
RepresentsInEitherVersion file s = Represents file s ⊎ RepresentsConverted file s

-- holds if a file holds a snapshot of the state `s` in version 2, and no records
pub record HoldsState (file : List ℕ) (s : BenchState) : Type 0 where
  pub snap : List ℕ
  pub spells : EncodesState snap s
  pub holds : Holds file snap []

-- holds if each image that a power cut now can leave represents this state in version 2
abbrev pub DiskRepresents : DiskState → BenchState → Type 0
DiskRepresents disk s = (image : List ℕ) → images_of disk image → Represents image s

-- holds if each image that a power cut now can leave represents, in version 1, a state whose
-- conversion to version 2 is this state
abbrev pub DiskRepresentsConverted : DiskState → BenchState → Type 0
DiskRepresentsConverted disk s = (image : List ℕ) → images_of disk image → RepresentsConverted image s

-- Holds if each image that a power cut since `time` can leave represents this state, in either
-- version.
abbrev pub DiskRepresentsSince : ℕ → DiskState → BenchState → Type 0
DiskRepresentsSince time disk s =
    (image : List ℕ) → images_since time disk image → RepresentsInEitherVersion image s
