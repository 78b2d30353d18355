-- The encoding of each instruction, in the order of the opcode table. (MCS-4 Users Manual,
-- instruction set.)
use Rattle.std.specs.Prelude.{ℕ, ◌+◌, ◌*◌, List, [], ◌∷◌}
use Rattle.mcs_model.specs.declared.op.Op.{Op}
use Rattle.mcs_model.specs.declared.op.Op.TheVariants.{Nop, Jcn, Fim, Src, Fin, Jin, Jun, Jms, Inc, Isz, Add, Sub, Ld, Xch, Bbl, Ldm, Wrm, Wmp, Wrr, Wr0, Wr1, Wr2, Wr3, Sbm, Rdm, Rdr, Adm, Rd0, Rd1, Rd2, Rd3, Clb, Clc, Iac, Cmc, Cma, Ral, Rar, Tcc, Dac, Tcs, Stc, Daa, Kbp, Dcl}

abbrev pub one_word : ℕ → List ℕ
one_word code = code ∷ []

abbrev pub two_words : ℕ → ℕ → List ℕ
two_words code second = code ∷ second ∷ []

-- the words that encode an instruction; if its operands are in range, `instruction_of` (module
-- `Table`) decodes these words to the same instruction
abbrev pub spelling : Op → List ℕ
spelling Nop = one_word 0x00
spelling (Jcn c b) = two_words (0x10 + c) b
spelling (Fim p b) = two_words (0x20 + 2 * p) b
spelling (Src p) = one_word (0x21 + 2 * p)
spelling (Fin p) = one_word (0x30 + 2 * p)
spelling (Jin p) = one_word (0x31 + 2 * p)
spelling (Jun h b) = two_words (0x40 + h) b
spelling (Jms h b) = two_words (0x50 + h) b
spelling (Inc r) = one_word (0x60 + r)
spelling (Isz r b) = two_words (0x70 + r) b
spelling (Add r) = one_word (0x80 + r)
spelling (Sub r) = one_word (0x90 + r)
spelling (Ld r) = one_word (0xA0 + r)
spelling (Xch r) = one_word (0xB0 + r)
spelling (Bbl d) = one_word (0xC0 + d)
spelling (Ldm d) = one_word (0xD0 + d)
spelling Wrm = one_word 0xE0
spelling Wmp = one_word 0xE1
spelling Wrr = one_word 0xE2
spelling Wr0 = one_word 0xE4
spelling Wr1 = one_word 0xE5
spelling Wr2 = one_word 0xE6
spelling Wr3 = one_word 0xE7
spelling Sbm = one_word 0xE8
spelling Rdm = one_word 0xE9
spelling Rdr = one_word 0xEA
spelling Adm = one_word 0xEB
spelling Rd0 = one_word 0xEC
spelling Rd1 = one_word 0xED
spelling Rd2 = one_word 0xEE
spelling Rd3 = one_word 0xEF
spelling Clb = one_word 0xF0
spelling Clc = one_word 0xF1
spelling Iac = one_word 0xF2
spelling Cmc = one_word 0xF3
spelling Cma = one_word 0xF4
spelling Ral = one_word 0xF5
spelling Rar = one_word 0xF6
spelling Tcc = one_word 0xF7
spelling Dac = one_word 0xF8
spelling Tcs = one_word 0xF9
spelling Stc = one_word 0xFA
spelling Daa = one_word 0xFB
spelling Kbp = one_word 0xFC
spelling Dcl = one_word 0xFD
