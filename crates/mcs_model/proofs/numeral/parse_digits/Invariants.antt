use Rattle.mcs_model.proofs.Digits.{IsValueOfFirstDigits}
use Rattle.mcs_model.proofs.numeral.parse_digits.Given as goal

abbrev pub invariant-loop-c : goal.invariant-loop-c
invariant-loop-c l = IsValueOfFirstDigits l.base l.value l.c-index l.ds
