-- The parts of a board, and the conditions under which they form a valid board. (Defined by
-- Fethsaim, not by Intel.)
use Rattle.std.specs.Prelude.{◌≡◌, ℕ, ◌+◌, ◌*◌, ◌≤◌, Bool, false, ◌&&◌, ◌||◌, not, List, [], replicate, Option, Some, None, is_some, slice_index, slice_index_or, length, nat_lt, nat_le, if◌then◌else◌}
use Rattle.std.specs.List.{list_any}
use Rattle.mcs_nibble.specs.declared.lines.LineMask.{LineMask}
use Rattle.mcs_nibble.specs.Ports.{is_input, mask_at}
use Rattle.mcs_model.specs.declared.board.BoardFault.{BoardFault}
use Rattle.mcs_model.specs.declared.board.BoardFault.TheVariants.{BadValue, NoSuchLine, WrongDirection}
use Rattle.mcs_model.specs.declared.board.BoardParts.{BoardParts}
use Rattle.mcs_model.specs.declared.board.ChainPart.{ChainPart}
use Rattle.mcs_model.specs.declared.board.KeyMatrix.{KeyMatrix}
use Rattle.mcs_model.specs.declared.board.Line.{Line}
use Rattle.mcs_model.specs.declared.board.Line.TheVariants.{Rom, Ram, Chain}
use Rattle.mcs_model.specs.declared.limits.TheConstants.{ROMS, BANKS, BANK_CHIPS, CHAINS, CHAIN_CHIPS, CHAIN_BITS, KEY_COLUMNS, KEY_ROWS, LAMPS}

-- The mask options of a ROM's port lines, or none if the board does not have that ROM. (4001 data
-- sheet: the mask makes each line an input or an output.)
abbrev pub rom_masks : BoardParts → ℕ → Option (List LineMask)
rom_masks b chip = slice_index_or b.roms chip None

-- true if line `k` (0 to 3) of ROM `chip` is an input line; false if the board does not have that
-- ROM
abbrev pub is_rom_input_line : BoardParts → ℕ → ℕ → Bool
is_rom_input_line b chip k = elim (rom_masks b chip) [ Some mask ↦ is_input (mask_at mask k) | None ↦ false ]

-- The chain that `chain_part` gives if the board has no chain with the given number. This chain has
-- no bits, and its clock line and data line have no meaning.
abbrev pub no_chain : ChainPart
no_chain = record { clock = Rom 0 0; data_in = Rom 0 0; chips = 0 }

-- chain `i` of the board, or `no_chain` if the board has no chain `i`
abbrev pub chain_part : BoardParts → ℕ → ChainPart
chain_part b i = slice_index_or b.chains.items i no_chain

abbrev pub chain_count : BoardParts → ℕ
chain_count b = length b.chains.items

-- the number of bits in chain `i`: ten for each chip (4003 data sheet; Fethsaim, not Intel,
-- specifies that the chips form one sequence of bits)
abbrev pub chain_bits : BoardParts → ℕ → ℕ
chain_bits b i = 10 * (chain_part b i).chips

-- the empty board: no chips, no keys and no lamps
abbrev pub empty_parts : BoardParts
empty_parts = record {
  roms = replicate ROMS None;
  banks = replicate BANKS 0;
  chains = record { items = [] };
  keys = None;
  lamps = record { items = [] };
}

-- true if each number that names the line (bank, chip, chain, line or bit) is in range
abbrev pub in_range : Line → Bool
in_range (Rom chip k) = nat_lt chip ROMS && nat_lt k 4
in_range (Ram bank chip k) = nat_lt bank BANKS && nat_lt chip BANK_CHIPS && nat_lt k 4
in_range (Chain n i) = nat_lt n CHAINS && nat_lt i CHAIN_BITS

-- true if the line is on the board: line 0 to 3 of a ROM or RAM chip that is present, or a bit that
-- a chain has
abbrev pub is_on_board : BoardParts → Line → Bool
is_on_board b (Rom chip k) = is_some (rom_masks b chip) && nat_lt k 4
is_on_board b (Ram bank chip k) = nat_lt chip (slice_index b.banks bank) && nat_lt k 4
is_on_board b (Chain n i) = nat_lt i (chain_bits b n)

-- true if the line is an input line of the board: a ROM line whose mask makes it an input
abbrev pub is_input_line : BoardParts → Line → Bool
is_input_line b (Rom chip k) = is_on_board b (Rom chip k) && is_rom_input_line b chip k
is_input_line b (Ram bank chip k) = false
is_input_line b (Chain n i) = false

-- true if the line is an output line of the board: a ROM line whose mask makes it an output, or a
-- line of a RAM chip
abbrev pub is_output_line : BoardParts → Line → Bool
is_output_line b (Rom chip k) = is_on_board b (Rom chip k) && not (is_rom_input_line b chip k)
is_output_line b (Ram bank chip k) = is_on_board b (Ram bank chip k)
is_output_line b (Chain n i) = false

-- true if `p` is true for the clock line or the data line of at least one chain
abbrev pub any_chain_line : (Line → Bool) → BoardParts → Bool
any_chain_line p b = list_any (λ (c : ChainPart). p c.clock || p c.data_in) b.chains.items

-- true if `p` is true for the line of at least one key column
abbrev pub any_column : (Line → Bool) → BoardParts → Bool
any_column p b = elim b.keys [ Some m ↦ list_any p m.columns.items | None ↦ false ]

-- true if `p` is true for the line of at least one lamp
abbrev pub any_lamp : (Line → Bool) → BoardParts → Bool
any_lamp p b = list_any p b.lamps.items

-- true if `p` is true for at least one line that the parts name
abbrev pub any_line : (Line → Bool) → BoardParts → Bool
any_line p b = any_chain_line p b || any_column p b || any_lamp p b

-- true if a chain has 1 to 8 chips
abbrev pub is_chain_size : ChainPart → Bool
is_chain_size c = nat_lt 0 c.chips && nat_le c.chips CHAIN_CHIPS

-- True if the numbers of a key matrix are in range: chain 0 to 3, first bit 0 to 79, and 1 to 10
-- rows. There must also be at least one column; the type limits the number of columns to 8.
abbrev pub is_matrix_size : KeyMatrix → Bool
is_matrix_size m =
    nat_lt m.chain CHAINS && nat_lt m.first CHAIN_BITS && nat_lt 0 m.rows && nat_le m.rows KEY_ROWS
    && nat_lt 0 (length m.columns.items)

abbrev pub has_bad_matrix : BoardParts → Bool
has_bad_matrix b = elim b.keys [ Some m ↦ not (is_matrix_size m) | None ↦ false ]

-- true if any number in the parts is out of range, or a key matrix has no columns
abbrev pub has_bad_value : BoardParts → Bool
has_bad_value b =
    list_any (λ n. nat_lt BANK_CHIPS n) b.banks
    || list_any (λ c. not (is_chain_size c)) b.chains.items
    || has_bad_matrix b
    || any_line (λ line. not (in_range line)) b

-- true if the chain of the key matrix is not on the board, or has too few bits for the rows
abbrev pub lacks_rows : BoardParts → Bool
lacks_rows b =
    elim b.keys [
      | Some m ↦ nat_le (chain_count b) m.chain || nat_lt (chain_bits b m.chain) (m.first + m.rows)
      | None ↦ false
    ]

-- true if a line that the parts name is not on the board, or if the key matrix lacks its chain or a
-- chain bit for a row
abbrev pub lacks_line : BoardParts → Bool
lacks_line b = any_line (λ line. not (is_on_board b line)) b || lacks_rows b

-- true if a clock or data line is not an output line, a column is not an input line, or a lamp
-- shows an input line
abbrev pub has_wrong_direction : BoardParts → Bool
has_wrong_direction b =
    any_chain_line (λ line. not (is_output_line b line)) b
    || any_column (λ line. not (is_input_line b line)) b
    || any_lamp (is_input_line b) b

-- the first error in the parts, or none if they have no errors
abbrev pub board_fault_of : BoardParts → Option BoardFault
board_fault_of b =
    if has_bad_value b then Some BadValue
    else if lacks_line b then Some NoSuchLine
    else if has_wrong_direction b then Some WrongDirection
    else None

-- true if the board has a key at this row and column
abbrev pub has_key : BoardParts → ℕ → ℕ → Bool
has_key b row column =
    elim b.keys [
      | Some m ↦ nat_lt row m.rows && nat_lt column (length m.columns.items)
      | None ↦ false
    ]

-- the number of keys on the board; 0 if the board has no key matrix
abbrev pub key_count : BoardParts → ℕ
key_count b = elim b.keys [ Some m ↦ m.rows * length m.columns.items | None ↦ 0 ]

-- the index of the key at a row and a column; keys are indexed row by row; 0 if the board has no
-- key matrix
abbrev pub key_index : BoardParts → ℕ → ℕ → ℕ
key_index b row column = elim b.keys [ Some m ↦ row * length m.columns.items + column | None ↦ 0 ]

-- holds if each list in the parts has a length that its type allows: exactly the declared length
-- for an array, and at most the declared capacity for an `ArrayVec`
pub record HasDeclaredLengths (b : BoardParts) : Type 0 where
  pub roms : length b.roms ≡ ROMS
  pub masks : (chip : ℕ) (mask : List LineMask) → rom_masks b chip ≡ Some mask → length mask ≡ 4
  pub banks : length b.banks ≡ BANKS
  pub chains : length b.chains.items ≤ CHAINS
  pub columns : (m : KeyMatrix) → b.keys ≡ Some m → length m.columns.items ≤ KEY_COLUMNS
  pub lamps : length b.lamps.items ≤ LAMPS
