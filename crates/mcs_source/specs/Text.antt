-- The text of an instruction at an address, and the listing of a ROM. (The names and operands are
-- from the MCS-4 Users Manual, instruction set. Their format is defined by Fethsaim.)
use Rattle.std.specs.Prelude.{ℕ, zero, suc, ◌+◌, ◌-◌, ◌/◌, ◌%◌, List, [], ◌∷◌, ◌++◌, length, drop, codes, Option, Some, None, nat_lt, nat_le, if◌then◌else◌}
use Rattle.std.specs.Fmt.{decimal}
use Rattle.mcs_model.specs.declared.op.Op.{Op}
use Rattle.mcs_model.specs.declared.op.Op.TheVariants.{Jcn, Fim, Src, Fin, Jin, Jun, Jms, Inc, Isz, Add, Sub, Ld, Xch, Bbl, Ldm}
use Rattle.mcs_model.specs.QueryText.{two_hex_digits, hex_digit}
use Rattle.mcs_model.specs.TextLines.{text_of}
use Rattle.mcs_model.specs.Table.{instruction_of, word_count_of}
use Rattle.mcs_source.specs.Assembly.{reachable_page}
use Rattle.mcs_source.specs.InstructionNames.{name}

-- the three hexadecimal digits of an address, from its page and its lower eight bits
abbrev pub address_digits : ℕ → ℕ → List ℕ
address_digits page word = hex_digit page ∷ two_hex_digits word

-- an address as `0xHHH`, from its page and its lower eight bits
abbrev pub address : ℕ → ℕ → List ℕ
address page word = codes "0x" ++ address_digits page word

abbrev pub byte_text : ℕ → List ℕ
byte_text b = codes "DB 0x" ++ two_hex_digits b

-- the operands as they follow the mnemonic of an instruction at an address: registers, pairs and
-- small values in decimal, bytes and addresses in hexadecimal
abbrev pub operands : ℕ → Op → List ℕ
operands at (Jcn c b) = codes " " ++ (decimal c ++ (codes ", " ++ address (reachable_page at) b))
operands at (Fim p b) = codes " P" ++ (decimal p ++ (codes ", 0x" ++ two_hex_digits b))
operands at (Src p) = codes " P" ++ decimal p
operands at (Fin p) = codes " P" ++ decimal p
operands at (Jin p) = codes " P" ++ decimal p
operands at (Jun h b) = codes " " ++ address h b
operands at (Jms h b) = codes " " ++ address h b
operands at (Inc r) = codes " R" ++ decimal r
operands at (Isz r b) = codes " R" ++ (decimal r ++ (codes ", " ++ address (reachable_page at) b))
operands at (Add r) = codes " R" ++ decimal r
operands at (Sub r) = codes " R" ++ decimal r
operands at (Ld r) = codes " R" ++ decimal r
operands at (Xch r) = codes " R" ++ decimal r
operands at (Bbl d) = codes " " ++ decimal d
operands at (Ldm d) = codes " " ++ decimal d
operands at o = []

-- the text of an instruction at an address; the target of a JCN or ISZ depends on the address
abbrev pub instruction_text : ℕ → Op → List ℕ
instruction_text at o = name o ++ operands at o

-- The decoded instruction, if the byte `b` and the bytes `rest` contain all its words. Otherwise
-- `None`, and `b` is listed as a single byte: `b` is an opcode outside the opcode table, or the
-- second word is past the end of the bytes.
abbrev pub complete_op : Option Op → ℕ → List ℕ → Option Op
complete_op None b rest = None
complete_op (Some o) b rest = if nat_le (word_count_of o) (1 + length rest) then Some o else None

-- The second word, which is the first byte of the list, or 0 if the list is empty. The 0 has no
-- effect, because `complete_op` then accepts only one-word instructions.
abbrev pub second_word : List ℕ → ℕ
second_word [] = 0
second_word (c ∷ rest) = c

-- The instruction with the first word `b` and, if it has two words, the first byte of `rest` as its
-- second word. `None` if `b` is listed as a single byte.
unfoldable pub op_at : ℕ → List ℕ → Option Op
op_at b rest = complete_op (instruction_of b (second_word rest)) b rest

-- the text of a piece of a listing: an instruction, or `DB` and the byte `b` if there is no
-- instruction (`None`)
abbrev pub piece_text : ℕ → ℕ → Option Op → List ℕ
piece_text at b None = byte_text b
piece_text at b (Some o) = instruction_text at o

abbrev pub piece_size : Option Op → ℕ
piece_size None = 1
piece_size (Some o) = word_count_of o

-- ---- the listing

-- the second word in a listing: two digits, or two spaces if the piece has no second word
abbrev pub second_column : Option ℕ → List ℕ
second_column (Some second) = two_hex_digits second
second_column None = codes "  "

-- the second word of a piece, if it has one
abbrev pub second_word_of_piece : Option Op → List ℕ → Option ℕ
second_word_of_piece piece rest = if nat_lt 1 (piece_size piece) then Some (second_word rest) else None

-- the one or two words of a piece in the form ` BB BB `
abbrev pub word_columns : ℕ → Option ℕ → List ℕ
word_columns first second =
    codes " " ++ (two_hex_digits first ++ (codes " " ++ (second_column second ++ codes " ")))

-- the columns `AAA BB BB ` before the text of a piece
abbrev pub columns : ℕ → ℕ → Option ℕ → List ℕ
columns at first second = address_digits (at / 256) (at % 256) ++ word_columns first second

-- a line of a listing in the form `AAA BB BB TEXT`
abbrev pub listing_line : ℕ → ℕ → List ℕ → Option Op → List ℕ
listing_line at b rest piece = columns at b (second_word_of_piece piece rest) ++ piece_text at b piece

-- the listing lines for bytes that start at address `at`, at most `most` lines
unfoldable pub listing_lines : ℕ → ℕ → List ℕ → List (List ℕ)
listing_lines zero at bytes = []
listing_lines (suc most) at [] = []
listing_lines (suc most) at (b ∷ rest) =
    listing_line at b rest (op_at b rest)
    ∷ listing_lines most (at + piece_size (op_at b rest))
    (drop (piece_size (op_at b rest) - 1) rest)

-- the listing of a ROM from address `from`: at most `lines` lines, each followed by LF; the listing
-- stops after address FFF
abbrev pub listing_text : List ℕ → ℕ → ℕ → List ℕ
listing_text rom from lines = text_of (listing_lines lines from (drop from rom))
