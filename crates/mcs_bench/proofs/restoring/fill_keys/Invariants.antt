use Rattle.std.proofs.Common.{◌≡◌}
use Rattle.mcs_bench.proofs.Filling.{IsFilled}
use Rattle.mcs_bench.proofs.restoring.fill_keys.Given as goal

abbrev pub invariant-loop-i : goal.invariant-loop-i
invariant-loop-i l = record {
  others : l.rig ≡ record l.fn.rig { keys = l.rig.keys };
  filled : IsFilled l.fn.rig.keys l.keys l.i l.rig.keys;
}
