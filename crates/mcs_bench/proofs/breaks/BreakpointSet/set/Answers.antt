use Rattle.std.proofs.Common.{◌≡◌, ◌∙◌, ℕ, List, sym, ap, subst, arith, slice_set, true, false}
use Rattle.std.specs.List.{insert}
use Rattle.mcs_model.specs.Listed.{insert_in_order, is_listed}
use Rattle.mcs_bench.specs.BreakpointSet.{HasFlags}
use Rattle.mcs_bench.proofs.OrderedLists.{flags-after-breakpoint-set}
use Rattle.mcs_bench.proofs.breaks.BreakpointSet.set.Goals as goal

pub invariant_of-self : goal.invariant_of-self
invariant_of-self c =
    let i = c.self.inside in
    let off = subst (λ (xs : List ℕ). is_listed xs c.args.at ≡ false) (sym c.self.view_is) (sym c.contains.ensures ∙ c.if-not-contains.true) in
    let list = c.insert.ensures.items ∙ ap (λ xs. insert xs c.insertion_index-index.result c.args.at) (sym c.as_slice.ensures.value) ∙ c.insertion_index-index.ensures.index ∙ ap (λ xs. insert_in_order xs c.args.at) c.as_slice.ensures.value in
    subst (λ (xs : List ℕ). HasFlags (slice_set i.flags c.from.result true) xs) (sym list) (flags-after-breakpoint-set i.flags i.list.items c.from.result c.args.at (c.from.ensures ∙ c.get.ensures.value) (omega arith) off c.self.invariant)
