use Rattle.std.proofs.Common.{◌≡◌}
use Rattle.mcs_check.proofs.KeyLevels.{AreFirstSet}
use Rattle.mcs_check.proofs.highest_levels.set_keys.Given as goal

abbrev pub invariant-loop-i : goal.invariant-loop-i
invariant-loop-i l = record {
  others : l.rig ≡ record l.fn.rig { keys = l.rig.keys };
  set : AreFirstSet l.count l.i l.fn.levels l.rig.keys;
}
