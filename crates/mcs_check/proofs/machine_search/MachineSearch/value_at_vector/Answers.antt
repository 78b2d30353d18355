use Rattle.std.proofs.Common.{◌∙◌, List, IfSome, ap, subst}
use Rattle.mcs_check.specs.declared.cells.StateByte.{StateByte}
use Rattle.mcs_check.specs.StateVectors.{Setting, setting_of}
use Rattle.mcs_check.specs.SearchStep.{ReadsAt}
use Rattle.mcs_check.proofs.machine_search.MachineSearch.value_at_vector.Goals as goal

pub returns-clause-value : goal.returns-clause-value
returns-clause-value c =
    let property = c.self.inside.property in
    let same = ap (λ (l : List StateByte). setting_of c.self.inside.replica c.self.inside.limits l property) c.deref.ensures.value ∙ c.self.view_is in
    subst (λ (g : Setting). IfSome c.value_at_vector.result (λ value. ReadsAt g c.args.vector.now c.args.levels.now value))
    same (c.value_at_vector.ensures.value property)
