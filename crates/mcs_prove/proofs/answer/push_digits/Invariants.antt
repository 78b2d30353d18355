use Rattle.std.proofs.Common.{◌≡◌, ◌++◌, string_bytes}
use Rattle.mcs_prove.specs.Answers.{first_digits}
use Rattle.mcs_prove.proofs.answer.push_digits.Given as goal

abbrev pub invariant-loop-index : goal.invariant-loop-index
invariant-loop-index l = string_bytes l.out ≡ string_bytes l.initial.out ++ first_digits l.levels l.index
