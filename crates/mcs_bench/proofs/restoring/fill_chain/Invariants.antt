use Rattle.std.proofs.Common.{◌≡◌, get_or, [], slice_set}
use Rattle.mcs_bench.proofs.Filling.{IsFilled}
use Rattle.mcs_bench.proofs.restoring.fill_chain.Given as goal

abbrev pub invariant-loop-i : goal.invariant-loop-i
invariant-loop-i l = record {
  others : l.rig ≡ record l.fn.rig { chains = slice_set l.fn.rig.chains l.chain (get_or l.rig.chains l.chain []) };
  filled : IsFilled (get_or l.fn.rig.chains l.chain []) l.bits l.i (get_or l.rig.chains l.chain []);
}
