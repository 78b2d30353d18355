use Rattle.std.proofs.Common.{◌≡◌, ◌<◌, ◌∙◌, ℕ, List, true, drop, length, OnOk, ap, subst}
use Rattle.std.specs.List.{Contains}
use Rattle.mcs_drive.specs.DrivenRuns.{Levels}
use Rattle.mcs_check.specs.declared.spacing.Spacing.{Spacing}
use Rattle.mcs_check.specs.SpacedInputs.{SpacedCovers, SpacedSetting, can_begin_at, spacing_of_bytes, spacing_of_vector}
use Rattle.mcs_check.proofs.spaced_search.SpacedSearchSystem.choices.Goals as goal

pub returns-clause-covers : goal.returns-clause-covers
returns-clause-covers c =
    let w = c.self.inside in
    let h : SpacedSetting = record { machines = w.machines; wait = w.wait; levels = w.levels.items } in
    let vector = c.args.state.now in
    let into = c.push_indices.new.into.items in
    let spacing : c.of_vector-spacing.result ≡ spacing_of_vector h vector = c.of_vector-spacing.ensures ∙ ap (λ (n : ℕ). spacing_of_bytes (drop n vector)) c.vector_len.ensures in
    let held : c.held-held.result ≡ w.machines.limits.held = c.held-held.ensures in
    let listed = subst (λ (all : List Levels). OnOk c.push_indices.result ((d : ℕ) → d < length all → can_begin_at w.wait c.held-held.result all c.of_vector-spacing.result d ≡ true → Contains into d)) c.deref.ensures.value c.push_indices.ensures in
    let limited = subst (λ (most : ℕ). OnOk c.push_indices.result ((d : ℕ) → d < length h.levels → can_begin_at w.wait most h.levels c.of_vector-spacing.result d ≡ true → Contains into d)) held listed in
    let covers : OnOk c.push_indices.result (SpacedCovers h vector into) =
    subst (λ (s : Spacing). OnOk c.push_indices.result ((d : ℕ) → d < length h.levels → can_begin_at h.wait h.machines.limits.held h.levels s d ≡ true → Contains into d)) spacing limited in
    subst (λ (h : SpacedSetting). OnOk c.push_indices.result (SpacedCovers h vector into)) c.self.view_is covers
