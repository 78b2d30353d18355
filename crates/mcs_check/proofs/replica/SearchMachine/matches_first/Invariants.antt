use Rattle.mcs_check.specs.Memory.{HasFirstBytes}
use Rattle.mcs_check.proofs.replica.SearchMachine.matches_first.Given as goal

abbrev pub invariant-loop-i : goal.invariant-loop-i
invariant-loop-i l = HasFirstBytes l.self l.layout l.vector l.i
