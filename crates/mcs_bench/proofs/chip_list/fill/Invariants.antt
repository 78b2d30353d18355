use Rattle.mcs_bench.proofs.ChipListLemmas.{Fills}
use Rattle.mcs_bench.proofs.chip_list.fill.Given as goal

abbrev pub invariant-loop-i : goal.invariant-loop-i
invariant-loop-i l = Fills l.fn.rig l.rig l.list l.numbers l.i
