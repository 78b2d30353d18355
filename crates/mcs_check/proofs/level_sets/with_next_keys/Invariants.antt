use Rattle.std.proofs.Common.{◌≡◌, take}
use Rattle.std.specs.List.{flat_map}
use Rattle.mcs_check.specs.LevelSets.{with_each_next_key}
use Rattle.mcs_check.proofs.level_sets.with_next_keys.Given as goal

abbrev pub invariant-loop-levels : goal.invariant-loop-levels
invariant-loop-levels l = l.more.items ≡ flat_map (with_each_next_key l.limits l.i) (take l.levels-index l.all)
