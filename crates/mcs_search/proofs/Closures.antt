-- The states that a search has found. A search only adds states. When all of them are expanded,
-- they are a closure.
use Rattle.std.proofs.Common.{◌≡◌, ◌<◌, ◌≤◌, ◌+◌, ℕ, ◌⊎◌, inl, inr, List, [], ◌∷◌, ◌++◌, length, get_or, refl, sym, ap, ◌∙◌, subst, arith, append_assoc, below_more}
use Rattle.std.specs.List.{Contains, All}
use Rattle.std.proofs.lemmas.List.{append-nil, get_or_append_left, length-append}
use Rattle.std.proofs.lemmas.List.Elements.{All-from_get_or, All-push, All-same, Contains-append_left, Contains-get_or}
use Rattle.mcs_search.specs.Rules.{Rules, LeadsInto, IsExpanded, Closure}
use Rattle.mcs_search.specs.StateStores.{StateStore, Grows, Adds}
use Rattle.mcs_search.specs.Verdicts.{IsUnderWay, IsAddOutcome}
use Rattle.mcs_search.specs.declared.visited.AddOutcome.{AddOutcome}
use Rattle.mcs_search.specs.declared.visited.AddOutcome.TheVariants as added

pub grows-refl : (s : StateStore) → Grows s s
grows-refl s = record { width = refl; states = ([], sym (append-nil s.states)) }

added_states-are_appended : (old new : List (List ℕ)) (state : List ℕ) → (new ≡ old) ⊎ (new ≡ old ++ state ∷ []) → (more : List (List ℕ)) × (new ≡ old ++ more)
added_states-are_appended old new state (inl same) = ([], same ∙ sym (append-nil old))
added_states-are_appended old new state (inr more) = (state ∷ [], more)

pub grows-if_adds : {old new : StateStore} {state : List ℕ} → Adds old state new → Grows old new
grows-if_adds {old = old} {new = new} {state = state} a = record { width = a.width; states = added_states-are_appended old.states new.states state a.states }

pub grows-trans : {a b d : StateStore} → Grows a b → Grows b d → Grows a d
grows-trans {a = a} {b = b} {d = d} g h = record {
  width = h.width ∙ g.width;
  states = (g.states.0 ++ h.states.0, h.states.1 ∙ ap (λ ks. ks ++ h.states.0) g.states.1 ∙ append_assoc a.states g.states.0 h.states.0);
}

all-after_add : (P : List ℕ → Type 0) (old new : List (List ℕ)) (state : List ℕ) → All P old → P state → (new ≡ old) ⊎ (new ≡ old ++ state ∷ []) → All P new
all-after_add P old new state all k (inl same) = All-same P new old same all
all-after_add P old new state all k (inr more) = All-same P new (old ++ state ∷ []) more (All-push P old state all k)

-- If `P` holds for all states and for the state that is added, `P` holds for all states afterwards.
pub all_states-after_add : (P : List ℕ → Type 0) {old new : StateStore} {state : List ℕ} → All P old.states → P state → Adds old state new → All P new.states
all_states-after_add P {old = old} {new = new} {state = state} all k a = all-after_add P old.states new.states state all k a.states

pub contains-after_growth : {old new : StateStore} (x : List ℕ) → Grows old new → Contains old.states x → Contains new.states x
contains-after_growth {old = old} {new = new} x g h = subst (λ (ks : List (List ℕ)). Contains ks x) (sym g.states.1) (Contains-append_left old.states g.states.0 x h)

pub leads_into-after_growth : (r : Rules) {old new : StateStore} (state : List ℕ) (c : ℕ) → Grows old new → LeadsInto r old.states state c → LeadsInto r new.states state c
leads_into-after_growth r state c g to = (to.0, to.1, contains-after_growth to.0 g to.2)

pub is_expanded-after_growth : (r : Rules) {old new : StateStore} (state : List ℕ) → Grows old new → IsExpanded r old.states state → IsExpanded r new.states state
is_expanded-after_growth r state g f = (f.0, f.1, λ k d l. leads_into-after_growth r state (get_or f.0 k d) g (f.2 k d l))

pub length-not_less_after_growth : {old new : StateStore} → Grows old new → length old.states ≤ length new.states
length-not_less_after_growth {old = old} {new = new} g = let e = ap length g.states.1 in let l = length-append old.states g.states.0 in omega arith

pub state_unchanged-after_growth : {old new : StateStore} (k : ℕ) → Grows old new → k < length old.states → get_or new.states k [] ≡ get_or old.states k []
state_unchanged-after_growth {old = old} {new = new} k g h = ap (λ (ks : List (List ℕ)). get_or ks k []) g.states.1 ∙ get_or_append_left old.states g.states.0 [] k h

-- If the first `next` states and the state at index `next` are expanded, the first `next + 1`
-- states are expanded.
pub first_states_expanded-with_next_state : (r : Rules) {old new : StateStore} (next : ℕ) → Grows old new → next < length old.states →
    ((k : ℕ) → k < next → IsExpanded r old.states (get_or old.states k [])) → IsExpanded r new.states (get_or old.states next []) →
    (k : ℕ) → k < next + 1 → IsExpanded r new.states (get_or new.states k [])
first_states_expanded-with_next_state r {old = old} {new = new} next g l before now =
    let P : ℕ → Type 0 = λ k. IsExpanded r new.states (get_or new.states k []) in
    below_more P next
    (λ k h. subst (IsExpanded r new.states) (sym (state_unchanged-after_growth k g (omega arith))) (is_expanded-after_growth r (get_or old.states k []) g (before k h)))
    (subst (IsExpanded r new.states) (sym (state_unchanged-after_growth next g l)) now)

-- ---- the invariant of a search

-- The invariant still holds if states are added.
pub under_way-after_growth : (r : Rules) {old new : StateStore} (n : ℕ) → Grows old new → n ≤ length old.states → All r.is_state new.states →
    IsUnderWay r (record { states = old.states; expanded = n }) → IsUnderWay r (record { states = new.states; expanded = n })
under_way-after_growth r {old = old} {new = new} n g l states u = record {
  states = states;
  expanded = λ k h. subst (IsExpanded r new.states) (sym (state_unchanged-after_growth k g (omega arith))) (is_expanded-after_growth r (get_or old.states k []) g (u.expanded k h));
}

-- The invariant still holds if states are added and the next state is expanded.
pub under_way-after_next_state_expanded : (r : Rules) {old new : StateStore} (n : ℕ) → Grows old new → n < length old.states → All r.is_state new.states →
    IsUnderWay r (record { states = old.states; expanded = n }) → IsExpanded r new.states (get_or old.states n []) → IsUnderWay r (record { states = new.states; expanded = n + 1 })
under_way-after_next_state_expanded r {old = old} {new = new} n g l states u now = record {
  states = states;
  expanded = first_states_expanded-with_next_state r n g l u.expanded now;
}

-- If all states are expanded, they are a closure.
pub closure-if_all_expanded : (r : Rules) (states : List (List ℕ)) (n : ℕ) → 0 < length states → n ≡ length states → IsUnderWay r (record { states = states; expanded = n }) →
    Closure r (get_or states 0 []) n
closure-if_all_expanded r states n some all u = record {
  states = states;
  count = sym all;
  contains_start = Contains-get_or states 0 [] some;
  expanded = All-from_get_or (IsExpanded r states) states [] (λ k h. u.expanded k (omega arith));
}

-- ---- the first state of a search

only_state-after_first_add : (start : List ℕ) (old new : List (List ℕ)) → old ≡ [] → (new ≡ old) ⊎ (new ≡ old ++ start ∷ []) → Contains new start → new ≡ start ∷ []
only_state-after_first_add start old new e (inl same) at = absurd (let no_new_states : length new ≡ 0 = ap length (same ∙ e) in let l = at.1 in omega arith)
only_state-after_first_add start old new e (inr more) at = more ∙ ap (λ ks. ks ++ start ∷ []) e

-- After a state is added to an empty store, it is the only state.
pub states-after_first_add : (start : List ℕ) (old new : StateStore) (a : AddOutcome) → old.states ≡ [] → Adds old start new → IsAddOutcome 1 old.states new.states start a → new.states ≡ start ∷ []
states-after_first_add start old new added.New e adds was = only_state-after_first_add start old.states new.states e adds.states was
states-after_first_add start old new added.Known e adds was = only_state-after_first_add start old.states new.states e adds.states was
states-after_first_add start old new added.Full e adds was = absurd (let no_old_states : length old.states ≡ 0 = ap length e in omega arith)
