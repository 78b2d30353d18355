use Rattle.std.proofs.Common.{◌≡◌, take}
use Rattle.mcs_model.specs.Listed.{without_listed}
use Rattle.mcs_bench.proofs.breaks.list_without.Given as goal

abbrev pub invariant-loop-address : goal.invariant-loop-address
invariant-loop-address l = l.remaining.items ≡ without_listed (take l.address-index l.address-items) l.at
