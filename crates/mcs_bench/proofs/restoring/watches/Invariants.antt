use Rattle.std.proofs.Common.{◌≡◌, take}
use Rattle.mcs_bench.proofs.restoring.watches.Given as goal

abbrev pub invariant-loop-at : goal.invariant-loop-at
invariant-loop-at l = l.watches ≡ take l.at-index l.list
