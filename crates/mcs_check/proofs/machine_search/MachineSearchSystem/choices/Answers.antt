use Rattle.std.proofs.Common.{◌∙◌, List, ap, subst}
use Rattle.mcs_check.specs.declared.cells.StateByte.{StateByte}
use Rattle.mcs_check.specs.StateVectors.{Setting, setting_of}
use Rattle.mcs_check.specs.SearchRules.{Covers}
use Rattle.mcs_check.proofs.machine_search.MachineSearchSystem.choices.Goals as goal

pub returns-clause-covers : goal.returns-clause-covers
returns-clause-covers c =
    let r = c.self.inside.replica in
    let property = c.self.inside.property in
    let same = ap (λ (l : List StateByte). setting_of r c.self.inside.limits l property) c.deref.ensures.value ∙ c.self.view_is in
    subst (λ (g : Setting). Covers g c.args.state.now c.list_readable_values.new.into.items) same (c.in_ok-list_readable_values.ensures.covers property)
