-- All input levels that the limits of a search allow.
use Rattle.std.specs.Prelude.{◌++◌, ℕ, zero, suc, List, [], ◌∷◌, ◌&&◌, flat_map, nat_le, nat_lt, slice_index, if◌then◌else◌}
use Rattle.std.specs.List.{All, Contains, sum}
use Rattle.mcs_model.specs.declared.board.BoardParts.{BoardParts}
use Rattle.mcs_drive.specs.DrivenRuns.{AreAllowed, InputLimits, Levels}

-- holds if `all` contains all levels that the limits allow on a board, and no others
pub record AreAllAllowedLevels (limits : InputLimits) (b : BoardParts) (all : List Levels) : Type 0 where
  pub allowed : All (AreAllowed limits b) all
  pub complete : (l : Levels) → AreAllowed limits b l → Contains all l

-- ---- the levels of the first keys

-- levels without keys, with TEST at the given level
abbrev pub without_keys : ℕ → Levels
without_keys level = record { keys = []; test = level }

-- the levels `l`, extended by the level of the next key
abbrev pub with_next_key : Levels → ℕ → Levels
with_next_key l level = record { keys = l.keys ++ level ∷ []; test = l.test }

-- the levels `l` of the first `i` keys, extended by each level of key `i` that the limits allow
abbrev pub with_each_next_key : InputLimits → ℕ → Levels → List Levels
with_each_next_key limits i l =
    with_next_key l 0
    ∷ (if nat_le 1 (slice_index limits.keys i) && nat_lt (sum l.keys) limits.together then with_next_key l 1 ∷ [] else [])

-- all levels of the first `i` keys and of TEST that the limits allow
abbrev pub levels_of_first_keys : InputLimits → ℕ → List Levels
levels_of_first_keys limits zero = without_keys 0 ∷ (if nat_le 1 limits.test then without_keys 1 ∷ [] else [])
levels_of_first_keys limits (suc i) = flat_map (with_each_next_key limits i) (levels_of_first_keys limits i)
