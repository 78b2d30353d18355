use Rattle.std.proofs.Common.{◌≡◌, take}
use Rattle.mcs_bench.proofs.breaks.copy_of_list.Given as goal

abbrev pub invariant-loop-address : goal.invariant-loop-address
invariant-loop-address l = l.copy.items ≡ take l.address-index l.address-items
