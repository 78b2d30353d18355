use Rattle.std.proofs.Common.{◌≡◌, ◌∙◌, not, List, ap}
use Rattle.mcs_check.specs.declared.conditions.Condition.{Condition}
use Rattle.mcs_check.specs.Conditions.{PropertyConditions, meets_none}
use Rattle.mcs_check.proofs.Ignoring.{conditions-ignore}
use Rattle.mcs_check.proofs.property.Property.opens.Goals as goal

pub returns : goal.returns
returns c =
    let s = c.args.replica.now in
    let lists = c.args.self.now.opens in
    let lent : c.deref.result.now ≡ lists = c.deref.ensures.value ∙ ap (λ (a : PropertyConditions). a.opens) c.self.view_is in
    ap not (c.meets_none.ensures ∙ ap (λ (xs : List (List Condition)). meets_none xs s) lent ∙ conditions-ignore lists s)
