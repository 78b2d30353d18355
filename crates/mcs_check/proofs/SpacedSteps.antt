-- One step of the search by levels, built from a step of the search by values.
use Rattle.std.proofs.Common.{◌≡◌, ◌∙◌, ◌++◌, ℕ, List, Option, Some, drop, length, take, unwrap_or, ap, subst, sym}
use Rattle.std.proofs.Math.Seq.{drop-append_seam, take-append_seam}
use Rattle.std.specs.List.{slice_get}
use Rattle.mcs_drive.specs.DrivenRuns.{Levels}
use Rattle.mcs_drive.specs.TrackedMachine.{value_read}
use Rattle.mcs_check.specs.SearchStep.{IsState, LeadsIn, ReadsAt}
use Rattle.mcs_check.specs.SpacedInputs.{SpacedLeads, SpacedSetting, machine_vector, spacing_after, spacing_of_bytes, spacing_of_vector}

-- The choice `d` leads to the next state vector under two conditions. Each machine that the state
-- vector identifies reads `value` at the levels with index `d`. From there it runs to a machine
-- that the next state vector identifies.
pub leads-by_levels : (h : SpacedSetting) (vector next : List ℕ) (d value cycles : ℕ) (levels : Levels) → slice_get h.levels d ≡ Some levels →
    ReadsAt h.machines (machine_vector h vector) levels value →
    LeadsIn h.machines cycles (machine_vector h vector) value (machine_vector h next) →
    spacing_of_vector h next ≡ spacing_after h.wait h.machines.limits.held h.levels (spacing_of_vector h vector) d levels cycles → SpacedLeads h vector d next
leads-by_levels h vector next d value cycles levels is reads leads spacing = λ a at.
    let to = leads a at in
    let same : (l : Levels) → slice_get h.levels d ≡ Some l → levels ≡ l = λ l chosen. ap (λ (o : Option Levels). unwrap_or o levels) (sym is ∙ chosen) in
    record {
      to = to.0;
      is = to.1;
      cycles = cycles;
      spacing = λ l chosen. subst (λ (m : Levels). spacing_of_vector h next ≡ spacing_after h.wait h.machines.limits.held h.levels (spacing_of_vector h vector) d m cycles) (same l chosen) spacing;
      run = λ l fits chosen. to.2 l fits (subst (λ (m : Levels). value_read m a ≡ value) (same l chosen) (reads a at));
    }

-- if a timed state vector is a machine's state vector and more bytes, `machine_vector` returns this
-- machine's state vector
pub machine_vector-of_parts : (h : SpacedSetting) (next bytes : List ℕ) → length next ≡ length h.machines.layout → machine_vector h (next ++ bytes) ≡ next
machine_vector-of_parts h next bytes len = subst (λ (n : ℕ). take n (next ++ bytes) ≡ next) len (take-append_seam next bytes)

-- the same if the next state vector has two parts: a machine's state vector, and the bytes of what
-- the search remembers
pub leads-by_parts : (h : SpacedSetting) (vector next bytes : List ℕ) (d value cycles : ℕ) (levels : Levels) → length next ≡ length h.machines.layout →
    slice_get h.levels d ≡ Some levels → ReadsAt h.machines (machine_vector h vector) levels value → LeadsIn h.machines cycles (machine_vector h vector) value next →
    spacing_of_bytes bytes ≡ spacing_after h.wait h.machines.limits.held h.levels (spacing_of_vector h vector) d levels cycles → SpacedLeads h vector d (next ++ bytes)
leads-by_parts h vector next bytes d value cycles levels len is reads leads spacing =
    let rest : drop (length h.machines.layout) (next ++ bytes) ≡ bytes = subst (λ (n : ℕ). drop n (next ++ bytes) ≡ bytes) len (drop-append_seam next bytes) in
    leads-by_levels h vector (next ++ bytes) d value cycles levels is reads
    (subst (LeadsIn h.machines cycles (machine_vector h vector) value) (sym (machine_vector-of_parts h next bytes len)) leads)
    (ap spacing_of_bytes rest ∙ spacing)

pub is_state-by_parts : (h : SpacedSetting) (next bytes : List ℕ) → length next ≡ length h.machines.layout → IsState h.machines next → IsState h.machines (machine_vector h (next ++ bytes))
is_state-by_parts h next bytes len is = subst (IsState h.machines) (sym (machine_vector-of_parts h next bytes len)) is
