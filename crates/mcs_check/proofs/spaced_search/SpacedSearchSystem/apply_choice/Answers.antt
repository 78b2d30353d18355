use Rattle.std.proofs.Common.{◌≡◌, ◌∙◌, ◌++◌, ℕ, List, Some, drop, length, take, refl, ap, subst, arith}
use Rattle.std.specs.List.{slice_get}
use Rattle.std.proofs.lemmas.Option.{slice_get_read}
use Rattle.mcs_drive.specs.DrivenRuns.{Levels}
use Rattle.mcs_check.specs.declared.search_step.StepEnd.{StepEnd}
use Rattle.mcs_check.specs.declared.spacing.Spacing.{Spacing}
use Rattle.mcs_check.specs.StateVectors.{Setting}
use Rattle.mcs_check.specs.SearchStep.{IfReached, IsState, LeadsIn, ReadsAt}
use Rattle.mcs_check.specs.SpacedInputs.{SpacedLeads, SpacedSetting, machine_vector, spacing_after, spacing_of_bytes, spacing_of_vector}
use Rattle.mcs_check.proofs.SpacedSteps.{is_state-by_parts, leads-by_parts}
use Rattle.mcs_check.proofs.spaced_search.SpacedSearchSystem.apply_choice.Goals as goal

pub returns-clause-leads : goal.returns-clause-leads
returns-clause-leads c = λ well.
    let w = c.self.inside in
    let h : SpacedSetting = record { machines = w.machines; wait = w.wait; levels = w.levels.items } in
    let vector = c.args.state.now in
    let next = c.run.new.into in
    let cycles = c.in-Reached.cycles in
    let value = c.in_ok-value.value in
    let levels : Levels = c.in_ok-levels.levels.now in
    let len = c.vector_len-len.result in
    let machine : take len vector ≡ machine_vector h vector = ap (λ (n : ℕ). take n vector) c.vector_len-len.ensures in
    let reads : ReadsAt w.machines (machine_vector h vector) levels value =
    subst (λ (k : List ℕ). ReadsAt w.machines k levels value) machine c.in_ok-value.ensures.value in
    let ended = subst (λ (e : StepEnd). IfReached e (λ n. LeadsIn c.value_at_vector.new.self n (take len vector) value next)) c.in-Reached.is c.in_ok-end.ensures.leads in
    let leads : LeadsIn w.machines cycles (machine_vector h vector) value next =
    subst (λ (k : List ℕ). LeadsIn w.machines cycles k value next) machine
    (subst (λ (g : Setting). LeadsIn g cycles (take len vector) value next) c.value_at_vector.ensures.setting ended) in
    let held : c.held-held.result ≡ w.machines.limits.held = c.held-held.ensures in
    let before : c.of_vector-before.result ≡ spacing_of_vector h vector = c.of_vector-before.ensures ∙ ap (λ (n : ℕ). spacing_of_bytes (drop n vector)) c.vector_len-len.ensures in
    let spacing : spacing_of_bytes c.write.new.bytes ≡ spacing_after w.wait w.machines.limits.held w.levels.items (spacing_of_vector h vector) c.args.choice levels cycles =
    c.write.ensures ∙ (c.after.ensures ∙ (ap (λ (ys : List Levels). spacing_after w.wait c.held-held.result ys c.of_vector-before.result c.args.choice levels cycles) c.deref-2.ensures.value ∙ ap (λ (n : ℕ). spacing_after w.wait n w.levels.items c.of_vector-before.result c.args.choice levels cycles) held ∙ ap (λ (s : Spacing). spacing_after w.wait w.machines.limits.held w.levels.items s c.args.choice levels cycles) before)) in
    let xs : List Levels = c.deref.result.now in
    let found : slice_get xs c.from.result ≡ Some levels = slice_get_read xs (length xs) c.from.result levels refl c.in_ok-levels.ensures.lookup.3.0 c.in_ok-levels.ensures.lookup.1 in
    let chosen : slice_get xs c.args.choice ≡ Some levels = subst (λ (i : ℕ). slice_get xs i ≡ Some levels) c.from.ensures found in
    let is : slice_get h.levels c.args.choice ≡ Some levels = subst (λ (ys : List Levels). slice_get ys c.args.choice ≡ Some levels) c.deref.ensures.value chosen in
    subst (λ (h : SpacedSetting). SpacedLeads h vector c.args.choice (next ++ c.write.new.bytes)) c.self.view_is
    (leads-by_parts h vector next c.write.new.bytes c.args.choice value cycles levels (omega arith) is reads leads spacing)

pub returns-clause-state : goal.returns-clause-state
returns-clause-state c = λ well.
    let w = c.self.inside in
    let h : SpacedSetting = record { machines = w.machines; wait = w.wait; levels = w.levels.items } in
    let next = c.run.new.into in
    let ended = subst (λ (e : StepEnd). IfReached e (λ _. IsState c.value_at_vector.new.self next)) c.in-Reached.is c.in_ok-end.ensures.state in
    let is : IsState w.machines next = subst (λ (g : Setting). IsState g next) c.value_at_vector.ensures.setting ended in
    subst (λ (h : SpacedSetting). IsState h.machines (machine_vector h (next ++ c.write.new.bytes))) c.self.view_is
    (is_state-by_parts h next c.write.new.bytes (omega arith) is)
