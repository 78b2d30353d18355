use Rattle.std.proofs.Common.{◌≡◌, ap, ◌∙◌, List, ℕ, length}
use Rattle.mcs_shift4003.specs.Packing.{bit_after_shift, chain_bits_of}
use Rattle.mcs_nibble.specs.Shifting.{bits_after_shift}
use Rattle.mcs_shift4003.proofs.WordLemmas.{chain_bits-after_shift, refill-all}
use Rattle.mcs_shift4003.proofs.Chain.shift.Goals as goal

pub returns : goal.returns
returns g c =
    let i = c.self.inside in
    let shifted = c.shift_bits.ensures in
    let words = c.deref_mut.ensures.value in
    let len : length c.shift_bits.new.words ≡ length i.words.items = shifted.len ∙ ap length words in
    ap (chain_bits_of i.bits) (refill-all i.words.items c.shift_bits.new.words len)
    ∙ chain_bits-after_shift i.bits c.args.level i.words.items c.shift_bits.new.words (λ k l. shifted.bits k l ∙ ap (λ (ws : List ℕ). bit_after_shift c.args.level ws k) words)
    ∙ ap (bits_after_shift c.args.level) c.self.view_is
