-- The source text for one instruction, and for a range of a ROM. (Defined by Fethsaim, not by
-- Intel.)
use Rattle.std.specs.Prelude.{◌≡◌, ℕ, zero, suc, ◌+◌, ◌-◌, ◌/◌, ◌%◌, List, [], ◌∷◌, ◌++◌, length, take, drop, codes, Option, Ok}
use Rattle.std.specs.Option.{option_to_list}
use Rattle.mcs_model.specs.TextLines.{text_of}
use Rattle.mcs_model.specs.Images.{from_address}
use Rattle.mcs_source.specs.Assembly.{assembly_of_text}
use Rattle.mcs_source.specs.Text.{address, op_at, piece_size, piece_text}

-- the text of the instruction at an address: `first` is its first word, `second` is the word after
-- it, or `None` if there is no next word
abbrev pub line_text : ℕ → ℕ → Option ℕ → List ℕ
line_text at first second = piece_text at first (op_at first (option_to_list second))

-- the source lines for bytes that start at address `at`, at most `most` lines; each line is an
-- instruction, or a byte that is not part of an instruction
unfoldable pub piece_texts : ℕ → ℕ → List ℕ → List (List ℕ)
piece_texts zero at bytes = []
piece_texts (suc most) at [] = []
piece_texts (suc most) at (b ∷ rest) =
    piece_text at b (op_at b rest)
    ∷ piece_texts most (at + piece_size (op_at b rest)) (drop (piece_size (op_at b rest) - 1) rest)

abbrev pub origin_text : ℕ → List ℕ
origin_text at = codes "ORG " ++ address (at / 256) (at % 256)

-- the source for bytes that start at address `from`: an `ORG` line, then a line for each
-- instruction and for each byte that is not part of an instruction
abbrev pub source_of : ℕ → List ℕ → List ℕ
source_of from bytes = text_of (origin_text from ∷ piece_texts (length bytes) from bytes)

abbrev pub range : List ℕ → ℕ → ℕ → List ℕ
range rom from to = take (to - from) (drop from rom)

-- the source for the ROM bytes at the addresses from `from` up to but not including `to`
abbrev pub source_text : List ℕ → ℕ → ℕ → List ℕ
source_text rom from to = source_of from (range rom from to)

-- Holds if the source of a ROM range assembles without error to exactly the bytes of the range,
-- each at its address.
abbrev pub SourceAssemblesBack : List ℕ → ℕ → ℕ → Type 0
SourceAssemblesBack rom from to =
    assembly_of_text (source_text rom from to) ≡ Ok (from_address from (range rom from to))
