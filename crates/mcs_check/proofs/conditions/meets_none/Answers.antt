use Rattle.std.proofs.Common.{◌≡◌, ◌+◌, ◌∙◌, ◌&&◌, not, List, [], get_or, sym, ap, drop, arith}
use Rattle.std.proofs.lemmas.List.{at_drop_more, at_drop_all, get_or_default}
use Rattle.mcs_check.specs.declared.conditions.Condition.{Condition}
use Rattle.mcs_check.specs.Conditions.{are_met, meets_none}
use Rattle.mcs_check.proofs.conditions.meets_none.Goals as goal

pub loop-i-preserved : goal.loop-i-preserved
loop-i-preserved c =
    let t = c.args.replica.now in
    let cs = c.args.never_lists.now in
    let i = c.loop-i.i in
    let element : c.index-never_lists-i.result ≡ get_or cs i [] = c.index-never_lists-i.is ∙ get_or_default cs i c.index-never_lists-i.result [] c.loop-i-test.true in
    sym (ap (λ b. not b && meets_none (drop (i + 1) cs) t) (ap (are_met t) (sym element) ∙ sym c.is_met.ensures ∙ c.if-is_met.false))
    ∙ sym (at_drop_more (λ (xs : List (List Condition)). meets_none xs t) cs i [] (omega arith)) ∙ c.loop-i.invariant

pub returns-then-is_met : goal.returns-then-is_met
returns-then-is_met c =
    let t = c.args.replica.now in
    let cs = c.args.never_lists.now in
    let i = c.loop-i.i in
    let element : c.index-never_lists-i.result ≡ get_or cs i [] = c.index-never_lists-i.is ∙ get_or_default cs i c.index-never_lists-i.result [] c.loop-i-test.true in
    sym (ap (λ b. not b && meets_none (drop (i + 1) cs) t) (ap (are_met t) (sym element) ∙ sym c.is_met.ensures ∙ c.if-is_met.true))
    ∙ sym (at_drop_more (λ (xs : List (List Condition)). meets_none xs t) cs i [] (omega arith)) ∙ c.loop-i.invariant

pub returns : goal.returns
returns c = sym (at_drop_all (λ (xs : List (List Condition)). meets_none xs c.args.replica.now) c.args.never_lists.now c.loop-i.i (let end = c.loop-i-test.false in omega arith)) ∙ c.loop-i.invariant
