-- Sequences of commands.
use Rattle.std.specs.Prelude.{◌≡◌, List, [], ◌∷◌, None}
use Rattle.mcs_model.specs.declared.command.Command.{Command}
use Rattle.mcs_model.specs.BenchState.{BenchState}
use Rattle.mcs_model.specs.Command.{refusal, after}

-- the state after a sequence of commands, if the bench accepts each of them (`AreAccepted`)
abbrev pub fold : BenchState → List Command → BenchState
fold s [] = s
fold s (c ∷ cs) = fold (after s c) cs

-- holds if each command of a sequence is accepted in the state after the commands before it
abbrev pub AreAccepted : BenchState → List Command → Type 0
AreAccepted s [] = Unit {0}
AreAccepted s (c ∷ cs) = (refusal s c ≡ None) × AreAccepted (after s c) cs
