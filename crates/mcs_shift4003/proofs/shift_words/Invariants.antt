use Rattle.mcs_shift4003.proofs.WordLemmas.{IsShifted}
use Rattle.mcs_shift4003.proofs.shift_words.Given as goal

abbrev pub invariant-loop-k : goal.invariant-loop-k
invariant-loop-k l = IsShifted l.fn.level l.initial.words l.words l.k l.carry
