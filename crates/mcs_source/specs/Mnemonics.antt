-- The words that begin a statement: the mnemonics of the 45 instructions, `ORG` and `DB`. (The
-- mnemonics are from the MCS-4 Users Manual, instruction set. `ORG` and `DB` are defined by
-- Fethsaim.)
use Rattle.std.specs.Prelude.{ℕ, List, [], ◌∷◌, Option, codes}
use Rattle.std.specs.Option.{option_or}
use Rattle.std.specs.Str.{str_eq_ignore_ascii_case}
use Rattle.mcs_model.specs.declared.op.Op.{Op}
use Rattle.mcs_model.specs.declared.op.Op.TheVariants as op
use Rattle.mcs_model.specs.WordTables.{lookup_entry}
use Rattle.mcs_source.specs.InstructionNames.{name}
use Rattle.mcs_source.specs.declared.mnemonic.Mnemonic.{Mnemonic}
use Rattle.mcs_source.specs.declared.mnemonic.Mnemonic.TheVariants as m

-- The entry for a word in a table, regardless of case. Each operand in the tables below is 0,
-- because only the names of the instructions are used.
abbrev pub mnemonic_lookup : List ℕ → List (List ℕ × Mnemonic) → Option Mnemonic
mnemonic_lookup w rows = lookup_entry (str_eq_ignore_ascii_case w) rows

-- the table entry for an instruction without operands
abbrev pub bare_row : Op → List ℕ × Mnemonic
bare_row o = (name o, m.WithoutOperands o)

-- the mnemonic for a word, if it is `ORG`, `DB` or an instruction with an opcode from 10 to 5F
unfoldable pub mnemonic_in_group1 : List ℕ → Option Mnemonic
mnemonic_in_group1 w = mnemonic_lookup w (
    (codes "ORG", m.Org) ∷ (codes "DB", m.Db) ∷ (name (op.Jcn 0 0), m.Jcn)
    ∷ (name (op.Fim 0 0), m.Fim) ∷ (name (op.Src 0), m.Src) ∷ (name (op.Fin 0), m.Fin)
    ∷ (name (op.Jin 0), m.Jin) ∷ (name (op.Jun 0 0), m.Jun) ∷ (name (op.Jms 0 0), m.Jms) ∷ [])

-- the mnemonic for a word, if it is `NOP` or an instruction with an opcode from 60 to DF
unfoldable pub mnemonic_in_group2 : List ℕ → Option Mnemonic
mnemonic_in_group2 w = mnemonic_lookup w (
    bare_row op.Nop ∷ (name (op.Inc 0), m.Inc) ∷ (name (op.Isz 0 0), m.Isz)
    ∷ (name (op.Add 0), m.Add) ∷ (name (op.Sub 0), m.Sub) ∷ (name (op.Ld 0), m.Ld)
    ∷ (name (op.Xch 0), m.Xch) ∷ (name (op.Bbl 0), m.Bbl) ∷ (name (op.Ldm 0), m.Ldm) ∷ [])

-- the mnemonic for a word, if it is an instruction with an opcode from E0 to E7; these write to RAM
-- and ports
unfoldable pub mnemonic_in_group3 : List ℕ → Option Mnemonic
mnemonic_in_group3 w = mnemonic_lookup w (
    bare_row op.Wrm ∷ bare_row op.Wmp ∷ bare_row op.Wrr ∷ bare_row op.Wr0 ∷ bare_row op.Wr1 ∷ bare_row op.Wr2
    ∷ bare_row op.Wr3 ∷ [])

-- the mnemonic for a word, if it is an instruction with an opcode from E8 to EF; these read from
-- RAM and ports
unfoldable pub mnemonic_in_group4 : List ℕ → Option Mnemonic
mnemonic_in_group4 w = mnemonic_lookup w (
    bare_row op.Sbm ∷ bare_row op.Rdm ∷ bare_row op.Rdr ∷ bare_row op.Adm ∷ bare_row op.Rd0 ∷ bare_row op.Rd1
    ∷ bare_row op.Rd2 ∷ bare_row op.Rd3 ∷ [])

-- the mnemonic for a word, if it is an instruction with an opcode from F0 to F6
unfoldable pub mnemonic_in_group5 : List ℕ → Option Mnemonic
mnemonic_in_group5 w = mnemonic_lookup w (
    bare_row op.Clb ∷ bare_row op.Clc ∷ bare_row op.Iac ∷ bare_row op.Cmc ∷ bare_row op.Cma ∷ bare_row op.Ral
    ∷ bare_row op.Rar ∷ [])

-- the mnemonic for a word, if it is an instruction with an opcode from F7 to FD
unfoldable pub mnemonic_in_group6 : List ℕ → Option Mnemonic
mnemonic_in_group6 w = mnemonic_lookup w (
    bare_row op.Tcc ∷ bare_row op.Dac ∷ bare_row op.Tcs ∷ bare_row op.Stc ∷ bare_row op.Daa ∷ bare_row op.Kbp
    ∷ bare_row op.Dcl ∷ [])

-- the mnemonic for a word that begins a statement, or `None` if no statement begins with the word
unfoldable pub mnemonic_of : List ℕ → Option Mnemonic
mnemonic_of w =
    option_or (mnemonic_in_group1 w)
    (option_or (mnemonic_in_group2 w)
    (option_or (mnemonic_in_group3 w)
    (option_or (mnemonic_in_group4 w)
    (option_or (mnemonic_in_group5 w) (mnemonic_in_group6 w)))))
