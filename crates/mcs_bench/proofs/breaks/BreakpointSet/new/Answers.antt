use Rattle.std.proofs.Common.{ℕ, List, sym, subst, replicate, false}
use Rattle.mcs_bench.specs.BreakpointSet.{HasFlags}
use Rattle.mcs_bench.proofs.OrderedLists.{flags-of-empty-set}
use Rattle.mcs_bench.proofs.breaks.BreakpointSet.new.Goals as goal

pub invariant_of-result : goal.invariant_of-result
invariant_of-result c = subst (λ (xs : List ℕ). HasFlags (replicate 4096 false) xs) (sym c.new.ensures) flags-of-empty-set
