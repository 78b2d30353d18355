use Rattle.std.proofs.Common.{◌≡◌, ◌≤◌, length}
use Rattle.mcs_check.specs.LevelSets.{levels_of_first_keys}
use Rattle.mcs_check.proofs.level_sets.all_allowed_levels.Given as goal

abbrev pub invariant-loop-i : goal.invariant-loop-i
invariant-loop-i l = record {
  all : l.all.items ≡ levels_of_first_keys l.limits l.i;
  few : length l.all.items ≤ 255;
}
