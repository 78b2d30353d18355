-- The opcode table: the instruction of each opcode, and the number of words and cycles of each
-- instruction. (MCS-4 Users Manual, instruction set. The opcodes 01 to 0F, E3, FE and FF are in no
-- row. Fethsaim, not Intel, specifies that these opcodes are outside the table and stop a run.)
use Rattle.std.specs.Prelude.{ℕ, ◌/◌, ◌%◌, Bool, true, ◌&&◌, List, [], ◌∷◌, Option, find, ◌==◌}
use Rattle.std.specs.Option.{option_map}
use Rattle.mcs_model.specs.declared.op.Op.{Op}
use Rattle.mcs_model.specs.declared.op.Op.TheVariants.{Nop, Jcn, Fim, Src, Fin, Jin, Jun, Jms, Inc, Isz, Add, Sub, Ld, Xch, Bbl, Ldm, Wrm, Wmp, Wrr, Wr0, Wr1, Wr2, Wr3, Sbm, Rdm, Rdr, Adm, Rd0, Rd1, Rd2, Rd3, Clb, Clc, Iac, Cmc, Cma, Ral, Rar, Tcc, Dac, Tcs, Stc, Daa, Kbp, Dcl}

-- the lower nibbles of the opcodes in a row: all, the even ones, the odd ones, or a single one
pub data LowerNibbles : Type 0 where
  Any : LowerNibbles
  Even : LowerNibbles
  Odd : LowerNibbles
  Only : ℕ → LowerNibbles

-- A row: the upper nibble of its opcodes, the lower nibbles of its opcodes, and a function. The
-- function gives the instruction for one of these opcodes and the word after the opcode.
pub record Row : Type 0 where
  pub upper : ℕ
  pub lower : LowerNibbles
  pub op : ℕ → ℕ → Op

abbrev pub row : ℕ → LowerNibbles → (ℕ → ℕ → Op) → Row
row upper lower op = record { upper = upper; lower = lower; op = op }

-- a row with a single opcode, for an instruction without operands
abbrev pub one_opcode_row : ℕ → ℕ → Op → Row
one_opcode_row upper lower op = row upper (Only lower) (λ _ _. op)

-- the operand in the lower nibble of an opcode: a condition, a register, a page or a value
abbrev pub nibble_in : ℕ → ℕ
nibble_in code = code % 16

-- the register pair in the upper three bits of the lower nibble of an opcode
abbrev pub pair_in : ℕ → ℕ
pair_in code = code % 16 / 2

abbrev pub rows : List Row
rows =
    one_opcode_row 0x0 0x0 Nop
    ∷ row 0x1 Any (λ a b. Jcn (nibble_in a) b)
    ∷ row 0x2 Even (λ a b. Fim (pair_in a) b)
    ∷ row 0x2 Odd (λ a _. Src (pair_in a))
    ∷ row 0x3 Even (λ a _. Fin (pair_in a))
    ∷ row 0x3 Odd (λ a _. Jin (pair_in a))
    ∷ row 0x4 Any (λ a b. Jun (nibble_in a) b)
    ∷ row 0x5 Any (λ a b. Jms (nibble_in a) b)
    ∷ row 0x6 Any (λ a _. Inc (nibble_in a))
    ∷ row 0x7 Any (λ a b. Isz (nibble_in a) b)
    ∷ row 0x8 Any (λ a _. Add (nibble_in a))
    ∷ row 0x9 Any (λ a _. Sub (nibble_in a))
    ∷ row 0xA Any (λ a _. Ld (nibble_in a))
    ∷ row 0xB Any (λ a _. Xch (nibble_in a))
    ∷ row 0xC Any (λ a _. Bbl (nibble_in a))
    ∷ row 0xD Any (λ a _. Ldm (nibble_in a))
    ∷ one_opcode_row 0xE 0x0 Wrm
    ∷ one_opcode_row 0xE 0x1 Wmp
    ∷ one_opcode_row 0xE 0x2 Wrr
    ∷ one_opcode_row 0xE 0x4 Wr0
    ∷ one_opcode_row 0xE 0x5 Wr1
    ∷ one_opcode_row 0xE 0x6 Wr2
    ∷ one_opcode_row 0xE 0x7 Wr3
    ∷ one_opcode_row 0xE 0x8 Sbm
    ∷ one_opcode_row 0xE 0x9 Rdm
    ∷ one_opcode_row 0xE 0xA Rdr
    ∷ one_opcode_row 0xE 0xB Adm
    ∷ one_opcode_row 0xE 0xC Rd0
    ∷ one_opcode_row 0xE 0xD Rd1
    ∷ one_opcode_row 0xE 0xE Rd2
    ∷ one_opcode_row 0xE 0xF Rd3
    ∷ one_opcode_row 0xF 0x0 Clb
    ∷ one_opcode_row 0xF 0x1 Clc
    ∷ one_opcode_row 0xF 0x2 Iac
    ∷ one_opcode_row 0xF 0x3 Cmc
    ∷ one_opcode_row 0xF 0x4 Cma
    ∷ one_opcode_row 0xF 0x5 Ral
    ∷ one_opcode_row 0xF 0x6 Rar
    ∷ one_opcode_row 0xF 0x7 Tcc
    ∷ one_opcode_row 0xF 0x8 Dac
    ∷ one_opcode_row 0xF 0x9 Tcs
    ∷ one_opcode_row 0xF 0xA Stc
    ∷ one_opcode_row 0xF 0xB Daa
    ∷ one_opcode_row 0xF 0xC Kbp
    ∷ one_opcode_row 0xF 0xD Dcl
    ∷ []

abbrev pub includes_nibble : LowerNibbles → ℕ → Bool
includes_nibble Any n = true
includes_nibble Even n = n % 2 == 0
includes_nibble Odd n = n % 2 == 1
includes_nibble (Only k) n = n == k

-- true if the opcode with these two nibbles is in the row
abbrev pub covers : ℕ → ℕ → Row → Bool
covers upper lower r = upper == r.upper && includes_nibble r.lower lower

-- the row of an opcode, or none if the opcode is outside the table
unfoldable pub row_of : ℕ → Option Row
row_of code = find (covers (code / 16) (code % 16)) rows

-- the instruction with these two words, or none if the first word is an opcode outside the table
unfoldable pub instruction_of : ℕ → ℕ → Option Op
instruction_of first second = option_map (λ (r : Row). r.op first second) (row_of first)

-- the number of words of an instruction: 2 if `rows` uses the word after the opcode as an operand,
-- otherwise 1
abbrev pub word_count_of : Op → ℕ
word_count_of (Jcn _ _) = 2
word_count_of (Fim _ _) = 2
word_count_of (Jun _ _) = 2
word_count_of (Jms _ _) = 2
word_count_of (Isz _ _) = 2
word_count_of _ = 1

-- the number of instruction cycles of an instruction: two for FIN, otherwise one for each word
abbrev pub cycles_of : Op → ℕ
cycles_of (Fin _) = 2
cycles_of op = word_count_of op
