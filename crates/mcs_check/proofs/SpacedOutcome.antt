-- The outcome of the search by levels.
use Rattle.std.proofs.Common.{◌≡◌, ◌∙◌, ◌≤◌, ◌++◌, [], ◌∷◌, ℕ, List, drop, get_or, length, sym, ap, subst}
use Rattle.std.proofs.Math.Seq.{drop-append_seam}
use Rattle.std.specs.List.{All, Contains}
use Rattle.std.proofs.lemmas.List.{length-map}
use Rattle.std.proofs.lemmas.List.Elements.{All-contains}
use Rattle.mcs_model.specs.declared.board.BoardParts.{BoardParts}
use Rattle.mcs_model.specs.Boards.{key_count}
use Rattle.mcs_drive.specs.DrivenRuns.{AreAllowed, Levels}
use Rattle.mcs_drive.specs.TrackedMachine.{TrackedMachine, Holds}
use Rattle.mcs_search.specs.Rules.{Closure}
use Rattle.mcs_check.specs.declared.spacing.TheConstants.{NO_LEVELS}
use Rattle.mcs_check.specs.Cells.{state_byte_value}
use Rattle.mcs_check.specs.Conditions.{observer_of_property}
use Rattle.mcs_check.specs.StateVectors.{Setting, IsVectorOf, property_of}
use Rattle.mcs_check.specs.LevelSets.{AreAllAllowedLevels}
use Rattle.mcs_check.specs.SearchStep.{IsState}
use Rattle.mcs_check.specs.SpacedInputs.{SpacedSetting, machine_vector, spaced_rules, spacing_of_bytes, spacing_of_vector}
use Rattle.mcs_check.proofs.Ignoring.{conditions-ignore}
use Rattle.mcs_check.proofs.Spaced.{property_holds-if_spaced_search_is_closed}
use Rattle.mcs_check.proofs.SpacedSteps.{is_state-by_parts, machine_vector-of_parts}

-- the bytes that follow the machine's state vector in a timed state vector before the first step
abbrev pub first_bytes : List ℕ
first_bytes = NO_LEVELS ∷ 0 ∷ 0 ∷ 0 ∷ 0 ∷ 0 ∷ 0 ∷ 0 ∷ 0 ∷ []

vector-length : (g : Setting) (vector : List ℕ) (a : TrackedMachine) → IsVectorOf g vector a → length vector ≡ length g.layout
vector-length g vector a is = ap length is.cells ∙ length-map g.layout (state_byte_value a)

-- the first timed state vector identifies a state
pub is_state-of_first_timed_vector : (h : SpacedSetting) (vector start : List ℕ) → start ≡ vector ++ first_bytes → IsState h.machines vector → IsState h.machines (machine_vector h start)
is_state-of_first_timed_vector h vector start e is =
    subst (λ (k : List ℕ). IsState h.machines (machine_vector h k)) (sym e) (is_state-by_parts h vector first_bytes (vector-length h.machines vector is.0 is.1) is)

-- each machine on the board of a setting has as many keys as the setting's limits
count-of_keys : (g : Setting) (vector : List ℕ) (a : TrackedMachine) → IsVectorOf g vector a → key_count a.1.board ≡ length g.limits.keys
count-of_keys g vector a is = sym is.on.bus.in_range.keys.has_count ∙ ap length is.on.keys

-- if a list contains only levels at which a step of the search can begin, the limits allow each of
-- these levels
pub allowed-if_levels_of_search : (h : SpacedSetting) (vector : List ℕ) (a : TrackedMachine) (found : List Levels) →
    ((b : BoardParts) → key_count b ≡ length h.machines.limits.keys → AreAllAllowedLevels h.machines.limits b h.levels) → All (Contains h.levels) found →
    IsVectorOf h.machines vector a → All (AreAllowed h.machines.limits a.1.board) found
allowed-if_levels_of_search h vector a found all inside is = λ k d less.
    All-contains (AreAllowed h.machines.limits a.1.board) h.levels (get_or found k d) (all a.1.board (count-of_keys h.machines vector a is)).allowed (inside k d less)

-- if a search by levels from the first timed state vector finds a closure, the property holds for
-- each machine that the state vector identifies
pub holds-by_spaced_search : (h : SpacedSetting) (vector start : List ℕ) (n : ℕ) (a : TrackedMachine) → h.wait ≤ h.machines.limits.wait →
    ((b : BoardParts) → key_count b ≡ length h.machines.limits.keys → AreAllAllowedLevels h.machines.limits b h.levels) → start ≡ vector ++ first_bytes →
    Closure (spaced_rules h) start n → IsVectorOf h.machines vector a → Holds h.machines.limits (observer_of_property h.machines.property) (property_of h.machines) a
holds-by_spaced_search h vector start n a apart all e closure is =
    let len = vector-length h.machines vector a is in
    let machine : machine_vector h start ≡ vector = ap (machine_vector h) e ∙ machine_vector-of_parts h vector first_bytes len in
    let rest : drop (length h.machines.layout) (vector ++ first_bytes) ≡ first_bytes = subst (λ (k : ℕ). drop k (vector ++ first_bytes) ≡ first_bytes) len (drop-append_seam vector first_bytes) in
    let none : (spacing_of_vector h start).last ≡ NO_LEVELS = ap (λ (k : List ℕ). (spacing_of_vector h k).last) e ∙ ap (λ (bytes : List ℕ). (spacing_of_bytes bytes).last) rest in
    property_holds-if_spaced_search_is_closed h start n a (conditions-ignore h.machines.property.never_lists) apart
    (λ l allowed. (all a.1.board (count-of_keys h.machines vector a is)).complete l allowed)
    closure (subst (λ (k : List ℕ). IsVectorOf h.machines k a) (sym machine) is) none
