-- Sequences of commands in version 1.
use Rattle.std.specs.Prelude.{◌≡◌, List, [], ◌∷◌, None, IsTrue}
use Rattle.mcs_model.specs.declared.command.Command.{Command}
use Rattle.mcs_version1.specs.BenchState.{BenchState1}
use Rattle.mcs_version1.specs.Command.{refusal_1, after_1, is_command_of_version_1}

-- the state after a sequence of commands, if version 1 accepts each of them (`AreAccepted1`)
abbrev pub fold_1 : BenchState1 → List Command → BenchState1
fold_1 s [] = s
fold_1 s (c ∷ cs) = fold_1 (after_1 s c) cs

-- holds if each command of a sequence is a command of version 1, and is accepted in the state after
-- the commands before it
abbrev pub AreAccepted1 : BenchState1 → List Command → Type 0
AreAccepted1 s [] = Unit {0}
AreAccepted1 s (c ∷ cs) =
    IsTrue (is_command_of_version_1 c) × ((refusal_1 s c ≡ None) × AreAccepted1 (after_1 s c) cs)
