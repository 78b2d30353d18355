-- The state that a file of version 1 represents, according to the definitions of version 1.
use Rattle.std.specs.Prelude.{◌≡◌, ◌≤◌, ℕ, true, List, [], ◌∷◌, None}
use Rattle.mcs_codec.specs.Codec.{Encodes, EncodesState1}
use Rattle.mcs_journal.specs.File.{Holds}
use Rattle.mcs_model.specs.declared.command.Command.{Command}
use Rattle.mcs_model.specs.declared.limits.TheConstants.{REPLAY_CYCLES}
use Rattle.mcs_model.specs.BenchState.{BenchState}
use Rattle.mcs_version1.specs.Command.{is_command_of_version_1, refusal_1, after_1}
use Rattle.mcs_version1.specs.BenchState.{BenchState1}
use Rattle.mcs_version1.specs.Fold.{fold_1}
use Rattle.mcs_version1.specs.Lift.{lift}
use Rattle.mcs_session.specs.Cycles.{log_cycles}

-- holds if each record encodes the version 1 command at the same index, and each command is
-- accepted in the state after the commands before it
abbrev pub ReplaysCommands1 : BenchState1 → List (List ℕ) → List Command → Type 0
ReplaysCommands1 s [] [] = Unit {0}
ReplaysCommands1 s [] (c ∷ cs) = ⊥
ReplaysCommands1 s (r ∷ rs) [] = ⊥
ReplaysCommands1 s (r ∷ rs) (c ∷ cs) =
    (Encodes r c × (is_command_of_version_1 c ≡ true)) × (refusal_1 s c ≡ None)
    × ReplaysCommands1 (after_1 s c) rs cs

-- Holds if a snapshot and the records after it represent the version 1 state `s`. The commands of
-- the records lead from the snapshot's state to `s`, and their cycle count is within the limit of a
-- log.
pub record RecordsRepresent1
    (snap : List ℕ) (records : List (List ℕ)) (s : BenchState1) : Type 0 where
  pub start : BenchState1
  pub snapshot : EncodesState1 snap start
  pub commands : List Command
  pub replays : ReplaysCommands1 start records commands
  pub bounded : log_cycles commands ≤ REPLAY_CYCLES
  pub state : s ≡ fold_1 start commands

-- holds if a file of version 1 represents a state that `lift` converts to the state `s`
pub record RepresentsConverted (file : List ℕ) (s : BenchState) : Type 0 where
  pub snap : List ℕ
  pub records : List (List ℕ)
  pub holds : Holds file snap records
  pub version_1 : BenchState1
  pub records_represent : RecordsRepresent1 snap records version_1
  pub lifted : s ≡ lift version_1
