-- A transition system in which each state is represented by its state vector, a list of bytes. The
-- definitions of this crate use "state" for the state vector.
use Rattle.std.specs.Prelude.{◌≡◌, ◌⊎◌, ℕ, List, [], ◌∷◌, length}
use Rattle.std.specs.List.{All, Contains}

-- The rules of a transition system:
--
-- - `is_state`: the list of bytes is the state vector of a state
-- - `covers`: the list of choices includes all choices that a search must try in the state
-- - `leads`: the choice leads from the first state to the second, and the property holds at every
--   step
-- - `fails`: the property fails while the system makes the choice in the state
pub record Rules : Type 1 where
  pub is_state : List ℕ → Type 0
  pub covers : List ℕ → List ℕ → Type 0
  pub leads : List ℕ → ℕ → List ℕ → Type 0
  pub fails : List ℕ → ℕ → Type 0

-- holds if a choice leads from the state `state` to one of the states in the list `states`
abbrev pub LeadsInto : Rules → List (List ℕ) → List ℕ → ℕ → Type 0
LeadsInto r states state choice = (next : List ℕ) × r.leads state choice next × Contains states next

-- holds if all choices that a search must try in a state lead to states in the given list
abbrev pub IsExpanded : Rules → List (List ℕ) → List ℕ → Type 0
IsExpanded r states state =
    (choices : List ℕ) × r.covers state choices × All (LeadsInto r states state) choices

-- A list of `n` states that includes the start and is closed under all choices. Any sequence of
-- choices from the start reaches only states in this list, and the property holds at every step.
pub record Closure (r : Rules) (start : List ℕ) (n : ℕ) : Type 0 where
  pub states : List (List ℕ)
  pub count : length states ≡ n
  pub contains_start : Contains states start
  pub expanded : All (IsExpanded r states) states

-- holds if the property fails when the system makes the choices in order, beginning in the given
-- state
abbrev pub IsCounterexample : Rules → List ℕ → List ℕ → Type 0
IsCounterexample r state [] = ⊥
IsCounterexample r state (c ∷ cs) = r.fails state c ⊎ ((next : List ℕ) × r.leads state c next × IsCounterexample r next cs)
