-- The conditions under which parts form a valid board in version 1, which allows fewer and shorter
-- chains than version 2. The checks that all lines exist and have the right direction are those of
-- version 2.
use Rattle.std.specs.Prelude.{◌≡◌, ◌≤◌, ◌↔◌, Bool, true, false, ◌&&◌, ◌||◌, not, Option, Some, None, length, nat_lt, nat_le, if◌then◌else◌}
use Rattle.std.specs.List.{list_any}
use Rattle.mcs_model.specs.declared.board.BoardFault.{BoardFault}
use Rattle.mcs_model.specs.declared.board.BoardFault.TheVariants.{BadValue, NoSuchLine, WrongDirection}
use Rattle.mcs_model.specs.declared.board.BoardParts.{BoardParts}
use Rattle.mcs_model.specs.declared.board.ChainPart.{ChainPart}
use Rattle.mcs_model.specs.declared.board.KeyMatrix.{KeyMatrix}
use Rattle.mcs_model.specs.declared.board.Line.{Line}
use Rattle.mcs_model.specs.declared.board.Line.TheVariants.{Rom, Ram, Chain}
use Rattle.mcs_model.specs.declared.limits.TheConstants.{ROMS, BANKS, BANK_CHIPS, KEY_ROWS}
use Rattle.mcs_model.specs.Boards.{HasDeclaredLengths, any_line, has_wrong_direction, lacks_line}
use Rattle.mcs_model.specs.Validity.{IsValidBoard}

-- true if each number that names the line (bank, chip, chain, line or bit) is in its range in
-- version 1
abbrev pub in_range_1 : Line → Bool
in_range_1 (Rom chip k) = nat_lt chip ROMS && nat_lt k 4
in_range_1 (Ram bank chip k) = nat_lt bank BANKS && nat_lt chip BANK_CHIPS && nat_lt k 4
in_range_1 (Chain n i) = nat_lt n 2 && nat_lt i 40

-- true if a chain has 1 to 4 chips
abbrev pub is_chain_size_1 : ChainPart → Bool
is_chain_size_1 c = nat_lt 0 c.chips && nat_le c.chips 4

-- True if the numbers of a key matrix are in range in version 1: chain 0 or 1, first bit 0 to 39,
-- and 1 to 10 rows. There must also be at least one column.
abbrev pub is_matrix_size_1 : KeyMatrix → Bool
is_matrix_size_1 m =
    nat_lt m.chain 2 && nat_lt m.first 40 && nat_lt 0 m.rows && nat_le m.rows KEY_ROWS
    && nat_lt 0 (length m.columns.items)

abbrev pub has_bad_matrix_1 : BoardParts → Bool
has_bad_matrix_1 b = elim b.keys [ Some m ↦ not (is_matrix_size_1 m) | None ↦ false ]

-- true if any number in the parts is out of range in version 1, or a key matrix has no columns
abbrev pub has_bad_value_1 : BoardParts → Bool
has_bad_value_1 b =
    list_any (λ n. nat_lt BANK_CHIPS n) b.banks
    || list_any (λ c. not (is_chain_size_1 c)) b.chains.items
    || has_bad_matrix_1 b
    || any_line (λ line. not (in_range_1 line)) b

-- the first error that version 1 finds in the parts, or none
abbrev pub board_fault_of_1 : BoardParts → Option BoardFault
board_fault_of_1 b =
    if has_bad_value_1 b then Some BadValue
    else if lacks_line b then Some NoSuchLine
    else if has_wrong_direction b then Some WrongDirection
    else None

-- holds if version 1 finds no errors in the parts, their lists have lengths that their types allow,
-- and there are at most two chains
pub record IsValidBoard1 (b : BoardParts) : Type 0 where
  pub sized : HasDeclaredLengths b
  pub few : length b.chains.items ≤ 2
  pub valid : board_fault_of_1 b ≡ None

-- true if a board has at most 2 chains, and each chain has at most 4 chips
abbrev pub fits_version_1 : BoardParts → Bool
fits_version_1 b =
    nat_le (length b.chains.items) 2
    && not (list_any (λ chain. nat_lt 4 chain.chips) b.chains.items)

-- Holds if the valid boards of version 1 are exactly the small valid boards of version 2
-- (`fits_version_1`). The other range limits of version 1 follow, because all lines of a board, and
-- the chain bits of its key rows, must exist.
abbrev pub Version1BoardsAreSmall : Type 0
Version1BoardsAreSmall = (b : BoardParts) → IsValidBoard1 b ↔ (IsValidBoard b × (fits_version_1 b ≡ true))
