-- Allowing one more key to be pressed does not change the number of keys of a board.
use Rattle.std.proofs.Common.{◌≡◌, ℕ, Bool, true, false, cond, List, length, slice_set, refl}
use Rattle.std.proofs.lemmas.List.{length-set}
use Rattle.mcs_model.specs.declared.board.BoardParts.{BoardParts}
use Rattle.mcs_model.specs.Boards.{has_key, key_index}
use Rattle.mcs_prove.specs.declared.inputs.KeyPosition.{KeyPosition}
use Rattle.mcs_prove.specs.AllowedInputs.{with_pressable_key}

length-of_choice : (b : Bool) (levels : List ℕ) (i level : ℕ) → length (cond b (slice_set levels i level) levels) ≡ length levels
length-of_choice true levels i level = length-set levels i level
length-of_choice false levels i level = refl

pub length-with_pressable_key : (b : BoardParts) (levels : List ℕ) (key : KeyPosition) → length (with_pressable_key b levels key) ≡ length levels
length-with_pressable_key b levels key = length-of_choice (has_key b key.row key.column) levels (key_index b key.row key.column) 1
