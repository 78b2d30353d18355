use Rattle.std.proofs.Common.{◌≡◌, ◌%◌, ◌∙◌, ap, arith, eqb}
use Rattle.mcs_nibble.specs.Bits.{bit_of}
use Rattle.mcs_model.specs.Levels.{is_pulled, bit_when}
use Rattle.mcs_board.proofs.KeyLemmas.{bit_of-packed_nibble, bit_when-below_2, bit_when-equals_1}
use Rattle.mcs_board.proofs.rig.Rig.is_pulled_by_key.Goals as goal

pub returns : goal.returns
returns g c =
    let s = c.args.self.now in
    let chip : c.low_of.result ≡ c.args.chip = c.low_of.ensures ∙ (let r = c.requires.chip in let e : c.args.chip % 16 ≡ c.args.chip = omega arith in e) in
    ap (λ n. eqb n 1) (c.get.ensures.value ∙ c.bit.ensures ∙ ap (λ n. bit_of n c.args.k) c.pulled_lines.ensures ∙ bit_of-packed_nibble (λ k. bit_when (is_pulled s c.low_of.result k)) c.args.k c.requires.k (λ j. bit_when-below_2 (is_pulled s c.low_of.result j)) ∙ ap (λ n. bit_when (is_pulled s n c.args.k)) chip)
    ∙ bit_when-equals_1 (is_pulled s c.args.chip c.args.k)
