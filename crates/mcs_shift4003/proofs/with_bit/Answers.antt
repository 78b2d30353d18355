use Rattle.std.proofs.Common.{arith, sym, ◌∙◌, w16}
use Rattle.std.proofs.lemmas.Nat.Bits.{bit_at_set_same, bit_at_set_other, bit_at_clear_same, bit_at_clear_other}
use Rattle.mcs_shift4003.proofs.WordLemmas.{bit_or-below_1024, bit_and-below_1024}
use Rattle.mcs_shift4003.proofs.with_bit.Goals as goal

pub returns-then-get-eq1-clause-set : goal.returns-then-get-eq1-clause-set
returns-then-get-eq1-clause-set c = bit_at_set_same w16 c.args.word c.args.j (let h = c.requires.j in omega arith) ∙ sym (sym c.get.ensures.value ∙ c.if-get-eq1.true)

pub returns-then-get-eq1-clause-others : goal.returns-then-get-eq1-clause-others
returns-then-get-eq1-clause-others c = λ k _ ne. bit_at_set_other w16 c.args.word c.args.j (let h = c.requires.j in omega arith) k ne

pub returns-then-get-eq1-clause-ten_bits : goal.returns-then-get-eq1-clause-ten_bits
returns-then-get-eq1-clause-ten_bits c = bit_or-below_1024 c.args.word c.args.j c.requires.word c.requires.j

pub returns-else-get-eq1-clause-set : goal.returns-else-get-eq1-clause-set
returns-else-get-eq1-clause-set c = bit_at_clear_same w16 c.args.word c.args.j (let h = c.requires.j in omega arith) ∙ (let e = c.get.ensures in omega arith)

pub returns-else-get-eq1-clause-others : goal.returns-else-get-eq1-clause-others
returns-else-get-eq1-clause-others c = λ k l ne. bit_at_clear_other w16 c.args.word c.args.j (let h = c.requires.j in omega arith) k (omega arith) ne

pub returns-else-get-eq1-clause-ten_bits : goal.returns-else-get-eq1-clause-ten_bits
returns-else-get-eq1-clause-ten_bits c = bit_and-below_1024 c.args.word _ c.requires.word
