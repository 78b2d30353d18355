use Rattle.std.proofs.Common.{◌≡◌, ◌++◌, string_bytes, take}
use Rattle.std.specs.List.{flat_map}
use Rattle.mcs_prove.specs.Answers.{space_and_decimal}
use Rattle.mcs_prove.proofs.answer.push_values.Given as goal

abbrev pub invariant-loop-value : goal.invariant-loop-value
invariant-loop-value l = string_bytes l.out ≡ string_bytes l.initial.out ++ flat_map space_and_decimal (take l.value-index l.values)
