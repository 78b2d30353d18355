-- The storage of a search's states. All their state vectors have the same width.
use Rattle.std.specs.Prelude.{◌≡◌, ◌<◌, ◌⊎◌, ◌+◌, ℕ, zero, suc, List, [], ◌∷◌, ◌++◌, take, drop, length}
use Rattle.std.specs.List.{All}
use Rattle.mcs_search.specs.declared.block.TheConstants.{STATES_PER_BLOCK}

-- the first `n` state vectors that are stored back to back in a list of bytes; each has `width`
-- bytes
unfoldable pub states_in_bytes : ℕ → ℕ → List ℕ → List (List ℕ)
states_in_bytes width zero bytes = []
states_in_bytes width (suc n) bytes = take width bytes ∷ states_in_bytes width n (drop width bytes)

-- a store of states: the number of bytes of each state vector, and the state vectors in order
pub record StateStore : Type 0 where
  pub width : ℕ
  pub states : List (List ℕ)

-- the states of several blocks, in order
unfoldable pub states_of_blocks : List StateStore → List (List ℕ)
states_of_blocks [] = []
states_of_blocks (b ∷ bs) = b.states ++ states_of_blocks bs

-- holds if each block has `n` states, each with `width` bytes
abbrev pub AreFull : ℕ → ℕ → List StateStore → Type 0
AreFull width n = All (λ (b : StateStore). (b.width ≡ width) × (length b.states ≡ n))

-- The invariant of an arena. The states in each block have `width` bytes. All blocks but the last
-- are full, and the last is not full. `len` is the number of states.
pub record ArenaInvariant (width len : ℕ) (full : List StateStore) (last : StateStore) : Type 0 where
  pub blocks : AreFull width STATES_PER_BLOCK full
  pub last_width : last.width ≡ width
  pub last_not_full : length last.states < STATES_PER_BLOCK
  pub count : len ≡ length (states_of_blocks full) + length last.states

-- holds if the new store has the states of the old store, in order, and possibly more states after
-- them
pub record Grows (old new : StateStore) : Type 0 where
  pub width : new.width ≡ old.width
  pub states : (more : List (List ℕ)) × (new.states ≡ old.states ++ more)

-- holds if the new store has the states of the old store, in order, and possibly the given state
-- after them
pub record Adds (old : StateStore) (state : List ℕ) (new : StateStore) : Type 0 where
  pub width : new.width ≡ old.width
  pub states : (new.states ≡ old.states) ⊎ (new.states ≡ old.states ++ state ∷ [])
