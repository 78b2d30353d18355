use Rattle.std.proofs.Common.{◌≡◌, ◌≤◌, take}
use Rattle.std.specs.List.{sum}
use Rattle.mcs_check.proofs.level_sets.keys_down.Given as goal

abbrev pub invariant-loop-level : goal.invariant-loop-level
invariant-loop-level l = record {
  down : l.down ≡ sum (take l.level-index l.keys);
  few : l.down ≤ l.level-index;
}
