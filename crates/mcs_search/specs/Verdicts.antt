-- The claims that the verdicts of a search make, and the invariants of a search.
use Rattle.std.specs.Prelude.{◌≡◌, ◌<◌, ◌≤◌, ℕ, List, [], length, slice_index_or}
use Rattle.std.specs.List.{All, Contains}
use Rattle.mcs_search.specs.Rules.{Rules, LeadsInto, IsExpanded, Closure, IsCounterexample}
use Rattle.mcs_search.specs.StateStores.{StateStore}
use Rattle.mcs_search.specs.declared.searching.TheConstants.{MAX_STATES}
use Rattle.mcs_search.specs.declared.searching.Verdict.{Verdict}
use Rattle.mcs_search.specs.declared.searching.Verdict.TheVariants as verdict
use Rattle.mcs_search.specs.declared.expanding.ExpandOutcome.{ExpandOutcome}
use Rattle.mcs_search.specs.declared.expanding.ExpandOutcome.TheVariants as expanded
use Rattle.mcs_search.specs.declared.visited.AddOutcome.{AddOutcome}
use Rattle.mcs_search.specs.declared.visited.AddOutcome.TheVariants as added

-- the claim that a verdict makes about a search from the state `start`; only `Holds` and `Broken`
-- make a claim
abbrev pub IsProved : Rules → List ℕ → Verdict → Type 0
IsProved r start (verdict.Holds n) = Closure r start n
IsProved r start (verdict.Broken choices) = IsCounterexample r start choices.items
IsProved r start verdict.TooMany = Unit {0}
IsProved r start (verdict.NoMemory n) = Unit {0}
IsProved r start verdict.GaveUp = Unit {0}

-- The progress of a search: the states found, in order, and the number of expanded states. A search
-- expands a state by making each of its choices there. It expands the states in the order in which
-- it found them.
pub record SearchProgress : Type 0 where
  pub states : List (List ℕ)
  pub expanded : ℕ

-- the state from which a search began
abbrev pub start_of : SearchProgress → List ℕ
start_of p = slice_index_or p.states 0 []

-- The invariant of a search. Each list of bytes found is the state vector of a state. All choices
-- that the search must try in the first `expanded` states lead to states that were found.
pub record IsUnderWay (r : Rules) (p : SearchProgress) : Type 0 where
  pub states : All r.is_state p.states
  pub expanded : (k : ℕ) → k < p.expanded → IsExpanded r p.states (slice_index_or p.states k [])

-- the claim that an `AddOutcome` makes about adding a state to a store of at most `max_states`
-- states
abbrev pub IsAddOutcome : ℕ → List (List ℕ) → List (List ℕ) → List ℕ → AddOutcome → Type 0
IsAddOutcome max_states old new state added.New = Contains new state
IsAddOutcome max_states old new state added.Known = Contains new state
IsAddOutcome max_states old new state added.Full = max_states ≤ length old

-- the claim that an `ExpandOutcome` makes about trying the given choices in a state; only `All` and
-- `Broken` make a claim
abbrev pub IsExpandOutcome : Rules → List (List ℕ) → List ℕ → List ℕ → ExpandOutcome → Type 0
IsExpandOutcome r states state choices expanded.All = All (LeadsInto r states state) choices
IsExpandOutcome r states state choices (expanded.Broken c) = r.fails state c
IsExpandOutcome r states state choices expanded.TooMany = Unit {0}
IsExpandOutcome r states state choices expanded.GaveUp = Unit {0}

-- the invariant of the fields of a search: its counters are in range, and its buffers have the
-- width of a state vector
pub record SearchInvariant (visited : StateStore) (next limit state_len into_len : ℕ) : Type 0 where
  pub not_empty : 0 < length visited.states
  pub below_limit : length visited.states < 4294967295
  pub within : next ≤ length visited.states
  pub max_states : limit ≤ MAX_STATES
  pub state : state_len ≡ visited.width
  pub into : into_len ≡ visited.width
