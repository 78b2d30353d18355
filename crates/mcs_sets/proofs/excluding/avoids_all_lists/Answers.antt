use Rattle.std.proofs.Common.{◌≡◌, ◌+◌, ◌∙◌, ◌&&◌, false, not, List, map, get_or, sym, ap, drop, arith, Vec, Global}
use Rattle.std.proofs.lemmas.List.{at_drop_more, at_drop_all}
use Rattle.mcs_check.specs.declared.conditions.Condition.{Condition}
use Rattle.mcs_check.specs.Conditions.{are_met, meets_none}
use Rattle.mcs_sets.proofs.excluding.avoids_all_lists.Goals as goal

pub loop-i-preserved : goal.loop-i-preserved
loop-i-preserved c = λ s of is.
    let vs = c.args.never_lists.now in
    let i = c.loop-i.i in
    let v = c.index-never_lists-i.result in
    let conjunction-unmet : are_met s v.items ≡ false = ap (are_met s) (sym c.as_slice.ensures.value) ∙ c.excludes_conjunction.ensures c.if-not-excludes_conjunction.false s of is in
    let element : v ≡ get_or vs i v = c.index-never_lists-i.is in
    let list_unmet : are_met s (get_or vs i v).items ≡ false = ap (λ (x : Vec Condition Global). are_met s x.items) (sym element) ∙ conjunction-unmet in
    sym (ap (λ b. not b && meets_none (map (λ n. n.items) (drop (i + 1) vs)) s) list_unmet)
    ∙ sym (at_drop_more (λ (xs : List (Vec Condition Global)). meets_none (map (λ n. n.items) xs) s) vs i v c.loop-i-test.true) ∙ c.loop-i.invariant s of is

pub returns : goal.returns
returns c = λ _ s of is.
    sym (c.loop-i.invariant s of is) ∙ at_drop_all (λ (xs : List (Vec Condition Global)). meets_none (map (λ n. n.items) xs) s) c.args.never_lists.now c.loop-i.i (let end = c.loop-i-test.false in omega arith)
