use Rattle.std.proofs.Common.{◌∙◌, ℕ, List, sym, subst, arith, slice_set, false}
use Rattle.mcs_bench.specs.BreakpointSet.{HasFlags}
use Rattle.mcs_bench.proofs.OrderedLists.{flags-after-breakpoint-clear}
use Rattle.mcs_bench.proofs.breaks.BreakpointSet.clear.Goals as goal

pub invariant_of-self : goal.invariant_of-self
invariant_of-self c =
    let i = c.self.inside in
    subst (λ (xs : List ℕ). HasFlags (slice_set i.flags c.from.result false) xs) (sym c.list_without-self-inside.ensures) (flags-after-breakpoint-clear i.flags i.list.items c.from.result c.args.at (c.from.ensures ∙ c.get.ensures.value) (omega arith) c.self.invariant)
