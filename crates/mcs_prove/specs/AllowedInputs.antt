-- The inputs that a question allows, and the limits on the inputs of a machine with a given board.
use Rattle.std.specs.Prelude.{ℕ, Bool, false, ◌&&◌, not, List, [], ◌∷◌, replicate, slice_set, Option, None, unwrap_or, if◌then◌else◌}
use Rattle.mcs_model.specs.declared.board.BoardParts.{BoardParts}
use Rattle.mcs_model.specs.Boards.{has_key, key_count, key_index}
use Rattle.mcs_drive.specs.DrivenRuns.{InputLimits}
use Rattle.mcs_prove.specs.declared.inputs.KeyPosition.{KeyPosition}

-- The inputs that a question allows. If `is_restricted` is false, all keys may be pressed and TEST
-- may be 1. If it is true, only the keys in `pressable` may be pressed, and TEST may be 1 only if
-- `test_may_change` is true. `together` is the maximum number of keys that are down at a time; None
-- means any number. `wait` is the smallest number of cycles between two changes of the levels.
-- `held` is the largest number of cycles for which a key stays down. For both, 0 means no limit.
pub record AllowedInputs : Type 0 where
  pub is_restricted : Bool
  pub pressable : List KeyPosition
  pub test_may_change : Bool
  pub together : Option ℕ
  pub wait : ℕ
  pub held : ℕ

-- the inputs that a question without a line about inputs allows
abbrev pub all_inputs : AllowedInputs
all_inputs = record {
  is_restricted = false;
  pressable = [];
  test_may_change = false;
  together = None;
  wait = 0;
  held = 0;
}

-- the highest levels of the keys of a board, changed to allow one more key to be pressed; unchanged
-- if the board does not have the key
abbrev pub with_pressable_key : BoardParts → List ℕ → KeyPosition → List ℕ
with_pressable_key b levels key =
    if has_key b key.row key.column then slice_set levels (key_index b key.row key.column) 1 else levels

-- the highest levels of the keys of a board, changed to allow more keys to be pressed
abbrev pub with_pressable_keys : BoardParts → List ℕ → List KeyPosition → List ℕ
with_pressable_keys b levels [] = levels
with_pressable_keys b levels (key ∷ keys) = with_pressable_keys b (with_pressable_key b levels key) keys

-- the highest level of each key of a board, row by row: 1 if the key may be pressed, otherwise 0
abbrev pub highest_key_levels : AllowedInputs → BoardParts → List ℕ
highest_key_levels a b =
    if a.is_restricted
    then with_pressable_keys b (replicate (key_count b) 0) a.pressable
    else replicate (key_count b) 1

-- the highest level of TEST
abbrev pub highest_test_level : AllowedInputs → ℕ
highest_test_level a = if a.is_restricted && not a.test_may_change then 0 else 1

-- the maximum number of keys of a board that are down at a time
abbrev pub most_keys_down : AllowedInputs → BoardParts → ℕ
most_keys_down a b = unwrap_or a.together (key_count b)

-- the limits on the inputs of a machine with this board
abbrev pub limits_of : AllowedInputs → BoardParts → InputLimits
limits_of a b = record {
  keys = highest_key_levels a b;
  test = highest_test_level a;
  together = most_keys_down a b;
  wait = a.wait;
  held = a.held;
}
