use Rattle.std.proofs.Common.{◌≡◌, ◌∙◌, ℕ, true, sym}
use Rattle.mcs_check.specs.declared.search_step.StepEnd.{StepEnd}
use Rattle.mcs_check.specs.declared.search_step.StepEnd.TheVariants.{Reached, Failed}
use Rattle.mcs_check.specs.SearchStep.{IfReached, IsState, LeadsIn, is_reached}
use Rattle.mcs_check.proofs.machine_search.MachineSearchSystem.apply_choice.Goals as goal

fact-if_reached : (end : StepEnd) (fact : ℕ → Type 0) → IfReached end fact → is_reached end ≡ true → (cycles : ℕ) × fact cycles
fact-if_reached (Reached cycles) fact is e = (cycles, is)
fact-if_reached Failed fact is e = absurd (cc)

pub returns-clause-leads : goal.returns-clause-leads
returns-clause-leads c = λ well.
    fact-if_reached c.in_ok-end.end (λ cycles. LeadsIn c.args.self.now cycles c.args.state.now c.args.choice c.run.new.into) c.in_ok-end.ensures.leads (sym c.is_reached.ensures ∙ well)

pub returns-clause-state : goal.returns-clause-state
returns-clause-state c = λ well.
    (fact-if_reached c.in_ok-end.end (λ _. IsState c.args.self.now c.run.new.into) c.in_ok-end.ensures.state (sym c.is_reached.ensures ∙ well)).1
