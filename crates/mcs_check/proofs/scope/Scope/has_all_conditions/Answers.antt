use Rattle.std.proofs.Common.{◌+◌, ◌∙◌, ◌&&◌, sym, ap, drop, arith}
use Rattle.std.proofs.lemmas.List.{at_drop_more, at_drop_all}
use Rattle.mcs_check.specs.Scopes.{has_all_conditions}
use Rattle.mcs_check.proofs.scope.Scope.has_all_conditions.Goals as goal

pub loop-i-preserved : goal.loop-i-preserved
loop-i-preserved c =
    let scope = c.args.self.now in
    let xs = c.args.conditions.now in
    let i = c.loop-i.i in
    sym (ap (λ b. b && has_all_conditions scope (drop (i + 1) xs)) (sym c.has_condition.ensures ∙ c.if-not-has_condition.false))
    ∙ sym (at_drop_more (has_all_conditions scope) xs i _ (omega arith)) ∙ c.loop-i.invariant

pub returns-then-not-has_condition : goal.returns-then-not-has_condition
returns-then-not-has_condition c =
    let scope = c.args.self.now in
    let xs = c.args.conditions.now in
    let i = c.loop-i.i in
    sym (ap (λ b. b && has_all_conditions scope (drop (i + 1) xs)) (sym c.has_condition.ensures ∙ c.if-not-has_condition.true))
    ∙ sym (at_drop_more (has_all_conditions scope) xs i _ (omega arith)) ∙ c.loop-i.invariant

pub returns : goal.returns
returns c = sym (at_drop_all (has_all_conditions c.args.self.now) c.args.conditions.now c.loop-i.i (let end = c.loop-i-test.false in omega arith)) ∙ c.loop-i.invariant
