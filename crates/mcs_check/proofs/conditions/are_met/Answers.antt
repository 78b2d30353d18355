use Rattle.std.proofs.Common.{◌+◌, ◌∙◌, ◌&&◌, sym, ap, drop, arith}
use Rattle.std.proofs.lemmas.List.{at_drop_more, at_drop_all}
use Rattle.mcs_check.specs.Conditions.{are_met}
use Rattle.mcs_check.proofs.conditions.are_met.Goals as goal

pub loop-i-preserved : goal.loop-i-preserved
loop-i-preserved c =
    let t = c.args.replica.now in
    let cs = c.args.conditions.now in
    let i = c.loop-i.i in
    sym (ap (λ b. b && are_met t (drop (i + 1) cs)) (sym c.is_met.ensures ∙ c.if-not-is_met.false))
    ∙ sym (at_drop_more (are_met t) cs i _ (omega arith)) ∙ c.loop-i.invariant

pub returns-then-not-is_met : goal.returns-then-not-is_met
returns-then-not-is_met c =
    let t = c.args.replica.now in
    let cs = c.args.conditions.now in
    let i = c.loop-i.i in
    sym (ap (λ b. b && are_met t (drop (i + 1) cs)) (sym c.is_met.ensures ∙ c.if-not-is_met.true))
    ∙ sym (at_drop_more (are_met t) cs i _ (omega arith)) ∙ c.loop-i.invariant

pub returns : goal.returns
returns c = sym (at_drop_all (are_met c.args.replica.now) c.args.conditions.now c.loop-i.i (let end = c.loop-i-test.false in omega arith)) ∙ c.loop-i.invariant
