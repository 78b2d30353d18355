-- How a board is read from its bytes. These definitions need not be trusted: reading is proved to
-- be the inverse of the encoding in `BoardBytes`.
use Rattle.std.specs.Prelude.{ℕ, ◌==◌, ◌&&◌, List, [], ◌∷◌, Option, Some, None, is_none, if◌then◌else◌}
use Rattle.mcs_nibble.specs.declared.lines.LineMask.{LineMask}
use Rattle.mcs_nibble.specs.Ports.{mask_of}
use Rattle.mcs_model.specs.declared.board.BoardParts.{BoardParts}
use Rattle.mcs_model.specs.declared.board.ChainPart.{ChainPart}
use Rattle.mcs_model.specs.declared.board.KeyMatrix.{KeyMatrix}
use Rattle.mcs_model.specs.declared.board.Line.{Line}
use Rattle.mcs_model.specs.declared.board.Line.TheVariants.{Rom, Ram, Chain}
use Rattle.mcs_model.specs.declared.limits.TheConstants.{BANKS, CHAINS, KEY_COLUMNS, LAMPS, ROMS}
use Rattle.mcs_model.specs.Boards.{board_fault_of}
use Rattle.mcs_codec.specs.Reading.{◌>>=◌, Reading, give, give_some, fail_reading, byte_at, read_if, read_times, bytes_at, counted_at}

-- gives the port lines 0 to 3 of a ROM, from the characters of its lines 3, 2, 1 and 0
abbrev pub masks_of : ℕ → ℕ → ℕ → ℕ → Reading (List LineMask)
masks_of a b c d = do
  line_3 ← give_some (mask_of a)
  line_2 ← give_some (mask_of b)
  line_1 ← give_some (mask_of c)
  line_0 ← give_some (mask_of d)
  give (line_0 ∷ line_1 ∷ line_2 ∷ line_3 ∷ [])

-- gives the ROM that four characters encode; `----` is an absent ROM
abbrev pub rom_of : ℕ → ℕ → ℕ → ℕ → Reading (Option (List LineMask))
rom_of a b c d =
    if a == 45 && b == 45 && c == 45 && d == 45 then give None
    else (do lines ← masks_of a b c d; give (Some lines))

unfoldable pub rom_at : Reading (Option (List LineMask))
rom_at = do
  a ← byte_at
  b ← byte_at
  c ← byte_at
  d ← byte_at
  rom_of a b c d

-- gives the line of this kind with these numbers; fails if the kind is unknown or an unused number
-- is not 0
abbrev pub board_line_of : ℕ → ℕ → ℕ → ℕ → Reading Line
board_line_of kind a b c =
    if kind == 0 && c == 0 then give (Rom a b)
    else if kind == 1 then give (Ram a b c)
    else if kind == 2 && c == 0 then give (Chain a b)
    else fail_reading

unfoldable pub board_line_at : Reading Line
board_line_at = do
  kind ← byte_at
  a ← byte_at
  b ← byte_at
  c ← byte_at
  board_line_of kind a b c

unfoldable pub chain_at : Reading ChainPart
chain_at = do
  clock ← board_line_at
  data_in ← board_line_at
  chips ← byte_at
  give (record { clock = clock; data_in = data_in; chips = chips })

-- reads a key matrix: its chain, the chain bit of row 0, its number of rows, and its columns
unfoldable pub matrix_at : Reading KeyMatrix
matrix_at = do
  chain ← byte_at
  first ← byte_at
  rows ← byte_at
  columns ← counted_at KEY_COLUMNS board_line_at
  give (record {
    chain = chain;
    first = first;
    rows = rows;
    columns = record { items = columns };
  })

-- reads the keys after their tag, which is 0 if the board has no keys and 1 if it has a key matrix
abbrev pub keys_after_tag : ℕ → Reading (Option KeyMatrix)
keys_after_tag tag =
    if tag == 0 then give None else
    if tag == 1 then (do matrix ← matrix_at; give (Some matrix)) else fail_reading

unfoldable pub keys_at : Reading (Option KeyMatrix)
keys_at = do
  tag ← byte_at
  keys_after_tag tag

-- reads the parts of a board, which need not make a valid board
unfoldable pub parts_at : Reading BoardParts
parts_at = do
  roms ← read_times ROMS rom_at
  banks ← bytes_at BANKS
  chains ← counted_at CHAINS chain_at
  keys ← keys_at
  lamps ← counted_at LAMPS board_line_at
  give (record {
    roms = roms;
    banks = banks;
    chains = record { items = chains };
    keys = keys;
    lamps = record { items = lamps };
  })

-- reads the parts of a board, and fails if they do not make a valid board
unfoldable pub board_at : Reading BoardParts
board_at = read_if (λ b. is_none (board_fault_of b)) parts_at
