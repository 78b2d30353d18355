use Rattle.std.proofs.Common.{◌≡◌, ◌≢◌, ◌<◌, ap, ◌∙◌, arith, List, ℕ, length, slice_set}
use Rattle.mcs_shift4003.specs.Packing.{packed_bit, chain_bits_of}
use Rattle.mcs_shift4003.proofs.WordLemmas.{length-chain_bits_of, chain_bits-after_set, packed-after_set, refill-all}
use Rattle.mcs_shift4003.proofs.Chain.set_bit.Goals as goal

pub set_packed_bit-requires-clause-in_words : goal.set_packed_bit-requires-clause-in_words
set_packed_bit-requires-clause-in_words g c =
    let i = c.self.inside in
    let len = length-chain_bits_of i.bits i.words.items in
    let equal_lengths = ap length c.self.view_is in
    let word_count = c.self.invariant.packed.used in
    let words = ap length c.deref_mut.ensures.value in
    let h = c.requires in
    omega arith

pub invariant_of-self : goal.invariant_of-self
invariant_of-self g c =
    let i = c.self.inside in
    let set_packed_bit = c.set_packed_bit.ensures in
    let words = c.deref_mut.ensures.value in
    let len : length c.set_packed_bit.new.words ≡ length i.words.items = set_packed_bit.len ∙ ap length words in
    let i_in_chain : c.args.i < i.bits = let h = c.requires in let e = length-chain_bits_of i.bits i.words.items in let equal_lengths = ap length c.self.view_is in omega arith in
    let other_bits : (k : ℕ) → k ≢ c.args.i → packed_bit c.set_packed_bit.new.words k ≡ packed_bit i.words.items k = λ k ne. set_packed_bit.others k ne ∙ ap (λ (ws : List ℕ). packed_bit ws k) words in
    record {
      fits = c.self.invariant.fits;
      packed = rw (refill-all i.words.items c.set_packed_bit.new.words len) (packed-after_set i.bits i.words.items c.set_packed_bit.new.words c.args.i c.self.invariant.packed i_in_chain len set_packed_bit.ten_bits other_bits);
    }

pub returns : goal.returns
returns g c =
    let i = c.self.inside in
    let set_packed_bit = c.set_packed_bit.ensures in
    let words = c.deref_mut.ensures.value in
    let len : length c.set_packed_bit.new.words ≡ length i.words.items = set_packed_bit.len ∙ ap length words in
    let within : c.args.i < i.bits = let h = c.requires in let e = length-chain_bits_of i.bits i.words.items in let equal_lengths = ap length c.self.view_is in omega arith in
    ap (chain_bits_of i.bits) (refill-all i.words.items c.set_packed_bit.new.words len)
    ∙ chain_bits-after_set i.bits i.words.items c.set_packed_bit.new.words c.args.i c.args.bit within set_packed_bit.set (λ k ne. set_packed_bit.others k ne ∙ ap (λ (ws : List ℕ). packed_bit ws k) words)
    ∙ ap (λ (row : List ℕ). slice_set row c.args.i c.args.bit) c.self.view_is
