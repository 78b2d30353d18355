-- The bytes that encode a board. (Defined by Fethsaim, not by Intel.)
use Rattle.std.specs.Prelude.{ℕ, List, [], ◌∷◌, ◌++◌, length, Option, Some, None}
use Rattle.std.specs.List.{flat_map}
use Rattle.mcs_nibble.specs.declared.lines.LineMask.{LineMask}
use Rattle.mcs_nibble.specs.Ports.{mask_at, mask_character}
use Rattle.mcs_model.specs.declared.board.BoardParts.{BoardParts}
use Rattle.mcs_model.specs.declared.board.ChainPart.{ChainPart}
use Rattle.mcs_model.specs.declared.board.KeyMatrix.{KeyMatrix}
use Rattle.mcs_model.specs.declared.board.Line.{Line}
use Rattle.mcs_model.specs.declared.board.Line.TheVariants.{Rom, Ram, Chain}

-- the characters of a ROM's port lines 3, 2, 1 and 0, in that order, or `----` if the ROM is absent
abbrev pub rom_bytes : Option (List LineMask) → List ℕ
rom_bytes (Some mask) =
    mask_character (mask_at mask 3)
    ∷ mask_character (mask_at mask 2)
    ∷ mask_character (mask_at mask 1)
    ∷ mask_character (mask_at mask 0)
    ∷ []
rom_bytes None = 45 ∷ 45 ∷ 45 ∷ 45 ∷ []

-- the four bytes of a line: the number of its kind, and then three numbers; the last number is 0 if
-- a line of this kind has only two numbers
abbrev pub board_line_bytes : Line → List ℕ
board_line_bytes (Rom chip k) = 0 ∷ chip ∷ k ∷ 0 ∷ []
board_line_bytes (Ram bank chip k) = 1 ∷ bank ∷ chip ∷ k ∷ []
board_line_bytes (Chain n i) = 2 ∷ n ∷ i ∷ 0 ∷ []

-- the bytes of a chain: its clock line, its data line, and its number of chips
abbrev pub chain_bytes : ChainPart → List ℕ
chain_bytes c = board_line_bytes c.clock ++ (board_line_bytes c.data_in ++ c.chips ∷ [])

-- the number of items, and then the bytes of each item
abbrev pub counted_bytes : {A : Type 0} → (A → List ℕ) → List A → List ℕ
counted_bytes text items = length items ∷ flat_map text items

-- a byte of 0 if the board has no keys; else a byte of 1 and then the key matrix
abbrev pub keys_bytes : Option KeyMatrix → List ℕ
keys_bytes None = 0 ∷ []
keys_bytes (Some m) = 1 ∷ m.chain ∷ m.first ∷ m.rows ∷ counted_bytes board_line_bytes m.columns.items

-- the bytes of a board: its ROMs, the number of chips of each bank, its chains, keys and lamps
abbrev pub board_bytes : BoardParts → List ℕ
board_bytes b =
    flat_map rom_bytes b.roms
    ++ (b.banks
    ++ (counted_bytes chain_bytes b.chains.items
    ++ (keys_bytes b.keys
    ++ counted_bytes board_line_bytes b.lamps.items)))
