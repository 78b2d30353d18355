use Rattle.std.proofs.Common.{◌≡◌, ◌+◌, ◌∙◌, ◌&&◌, [], get_or, sym, ap, drop, arith}
use Rattle.std.proofs.lemmas.List.{at_drop_more, at_drop_all, get_or_default}
use Rattle.mcs_check.specs.Scopes.{has_all_conditions, has_all_lists}
use Rattle.mcs_check.proofs.scope.Scope.has_all_lists.Goals as goal

pub loop-i-preserved : goal.loop-i-preserved
loop-i-preserved c =
    let scope = c.args.self.now in
    let cs = c.args.never_lists.now in
    let i = c.loop-i.i in
    let element : c.conditions.result.now ≡ get_or cs i [] = c.conditions.ensures ∙ (c.index-never_lists-i.is ∙ get_or_default cs i c.index-never_lists-i.result [] c.loop-i-test.true) in
    sym (ap (λ b. b && has_all_lists scope (drop (i + 1) cs)) (ap (has_all_conditions scope) (sym element) ∙ sym c.has_all_conditions.ensures ∙ c.if-not-has_all_conditions.false))
    ∙ sym (at_drop_more (has_all_lists scope) cs i [] (omega arith)) ∙ c.loop-i.invariant

pub returns-then-not-has_all_conditions : goal.returns-then-not-has_all_conditions
returns-then-not-has_all_conditions c =
    let scope = c.args.self.now in
    let cs = c.args.never_lists.now in
    let i = c.loop-i.i in
    let element : c.conditions.result.now ≡ get_or cs i [] = c.conditions.ensures ∙ (c.index-never_lists-i.is ∙ get_or_default cs i c.index-never_lists-i.result [] c.loop-i-test.true) in
    sym (ap (λ b. b && has_all_lists scope (drop (i + 1) cs)) (ap (has_all_conditions scope) (sym element) ∙ sym c.has_all_conditions.ensures ∙ c.if-not-has_all_conditions.true))
    ∙ sym (at_drop_more (has_all_lists scope) cs i [] (omega arith)) ∙ c.loop-i.invariant

pub returns : goal.returns
returns c = sym (at_drop_all (has_all_lists c.args.self.now) c.args.never_lists.now c.loop-i.i (let end = c.loop-i-test.false in omega arith)) ∙ c.loop-i.invariant
