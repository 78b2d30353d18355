-- The conditions that the parts of a valid board satisfy.
use Rattle.std.proofs.Common.{◌≡◌, Bool, true, false, not, ◌||◌, cond, Some, None, refl, nat_lt}
use Rattle.std.specs.List.{list_any}
use Rattle.std.proofs.lemmas.Bool.{or_parts}
use Rattle.mcs_model.specs.declared.board.BoardFault.TheVariants.{BadValue, NoSuchLine, WrongDirection}
use Rattle.mcs_model.specs.declared.board.BoardParts.{BoardParts}
use Rattle.mcs_model.specs.Boards.{board_fault_of, has_bad_value, has_bad_matrix, lacks_line, lacks_rows, has_wrong_direction, any_line, is_on_board, in_range, is_chain_size}

-- if the parts have no error, all three tests for errors are false
pub no_fault : (a b c : Bool) → cond a (Some BadValue) (cond b (Some NoSuchLine) (cond c (Some WrongDirection) None)) ≡ None → (a ≡ false) × (b ≡ false) × (c ≡ false)
no_fault true b c h = absurd (cc)
no_fault false true c h = absurd (cc)
no_fault false false true h = absurd (cc)
no_fault false false false h = (refl, refl, refl)

-- holds if all numbers in the parts are in range, and the key matrix, if any, has at least one
-- column
pub record HasGoodValues (b : BoardParts) : Type 0 where
  pub banks : list_any (λ n. nat_lt 4 n) b.banks ≡ false
  pub chains : list_any (λ c. not (is_chain_size c)) b.chains.items ≡ false
  pub matrix : has_bad_matrix b ≡ false
  pub lines : any_line (λ line. not (in_range line)) b ≡ false

-- holds if all numbers are in range, each named line exists, each key row has its chain bit, and
-- each line has the right direction
pub record IsSound (b : BoardParts) : Type 0 where
  pub values : HasGoodValues b
  pub lines : any_line (λ line. not (is_on_board b line)) b ≡ false
  pub rows : lacks_rows b ≡ false
  pub directions : has_wrong_direction b ≡ false

good_values-if_no_bad_value : (b : BoardParts) → has_bad_value b ≡ false → HasGoodValues b
good_values-if_no_bad_value b h =
    let banks = list_any (λ n. nat_lt 4 n) b.banks in
    let chains = list_any (λ c. not (is_chain_size c)) b.chains.items in
    let first = or_parts (banks || chains || has_bad_matrix b) (any_line (λ line. not (in_range line)) b) h in
    let second = or_parts (banks || chains) (has_bad_matrix b) first.0 in
    let third = or_parts banks chains second.0 in
    record { banks = third.0; chains = third.1; matrix = second.1; lines = first.1 }

pub sound : (b : BoardParts) → board_fault_of b ≡ None → IsSound b
sound b h =
    let parts = no_fault (has_bad_value b) (lacks_line b) (has_wrong_direction b) h in
    let lines = or_parts (any_line (λ line. not (is_on_board b line)) b) (lacks_rows b) parts.1 in
    record { values = good_values-if_no_bad_value b parts.0; lines = lines.0; rows = lines.1; directions = parts.2 }
