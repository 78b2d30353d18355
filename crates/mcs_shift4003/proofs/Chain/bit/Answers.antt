use Rattle.std.proofs.Common.{◌≡◌, ap, ◌∙◌, ℕ, Some, List, slice_get, ◌/◌, ◌%◌, slice_index}
use Rattle.mcs_shift4003.specs.Packing.{packed_bit}
use Rattle.mcs_shift4003.proofs.WordLemmas.{slice_get-chain_bits_of, no_chain_bit-past_end, tested_bit-equals_bit_of}
use Rattle.mcs_shift4003.proofs.Chain.bit.Goals as goal

pub returns-then-i-self : goal.returns-then-i-self
returns-then-i-self g c =
    let i = c.self.inside in
    let level : c.when.result ≡ packed_bit i.words.items c.args.i = c.when.ensures ∙ tested_bit-equals_bit_of (slice_index c.deref.result.now (c.args.i / 10)) (c.args.i % 10) ∙ ap (λ (ws : List ℕ). packed_bit ws c.args.i) c.deref.ensures.0 in
    ap Some level
    ∙ slice_get-chain_bits_of i.bits i.words.items c.args.i c.if-i-self.true
    ∙ ap (λ (row : List ℕ). slice_get row c.args.i) c.self.view_is

pub returns-else-i-self : goal.returns-else-i-self
returns-else-i-self g c = no_chain_bit-past_end c.self.inside.bits c.self.inside.words.items c.args.i c.if-i-self.false ∙ ap (λ (row : List ℕ). slice_get row c.args.i) c.self.view_is
