use Rattle.std.proofs.Common.{◌∙◌, List, IfSome, ap, subst}
use Rattle.mcs_check.specs.declared.cells.StateByte.{StateByte}
use Rattle.mcs_check.specs.StateVectors.{Setting, setting_of}
use Rattle.mcs_check.specs.SearchStep.{IfReached, IsState, LeadsIn}
use Rattle.mcs_check.proofs.machine_search.MachineSearch.run.Goals as goal

pub returns-clause-leads : goal.returns-clause-leads
returns-clause-leads c =
    let same = ap (λ (l : List StateByte). setting_of c.self.inside.replica c.self.inside.limits l c.self.inside.property) c.deref.ensures.value ∙ c.self.view_is in
    subst (λ (g : Setting). IfSome c.run_to_next_state.result (λ end. IfReached end (λ cycles. LeadsIn g cycles c.args.vector.now c.args.value c.run_to_next_state.new.into)))
    same (c.run_to_next_state.ensures.leads c.self.inside.limits c.self.invariant.0)

pub returns-clause-state : goal.returns-clause-state
returns-clause-state c =
    let same = ap (λ (l : List StateByte). setting_of c.self.inside.replica c.self.inside.limits l c.self.inside.property) c.deref.ensures.value ∙ c.self.view_is in
    subst (λ (g : Setting). IfSome c.run_to_next_state.result (λ end. IfReached end (λ _. IsState g c.run_to_next_state.new.into)))
    same (c.run_to_next_state.ensures.state c.self.inside.limits c.self.invariant.0)
