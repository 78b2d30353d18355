use Rattle.std.proofs.Common.{◌≡◌, ap, ◌∙◌, ◌+◌, ◌/◌, ◌<◌, sym, List, ℕ, slice_index, subst}
use Rattle.mcs_shift4003.proofs.WordLemmas.{chain_bit-at_any_index, ten_bits-from_two_words}
use Rattle.mcs_shift4003.proofs.Chain.ten_bits_from.Goals as goal

pub returns-clause-bits : goal.returns-clause-bits
returns-clause-bits g c = λ j h.
    let i = c.self.inside in
    let at = c.args.first / 10 in
    let low : c.from-low.result ≡ slice_index i.words.items at = c.from-low.ensures ∙ c.word_at.ensures ∙ ap (λ (ws : List ℕ). slice_index ws at) c.as_slice-words.ensures.value in
    let high : c.from-high.result ≡ slice_index i.words.items (at + 1) = c.from-high.ensures ∙ c.word_at-2.ensures ∙ ap (λ (ws : List ℕ). slice_index ws (at + 1)) c.as_slice-words.ensures.value in
    let low_below_1024 : c.from-low.result < 1024 = subst (λ w. w < 1024) (sym low) (c.self.invariant.packed.ten_bits at) in
    ten_bits-from_two_words i.words.items c.args.first c.from-low.result c.from-high.result j low high low_below_1024 h
    ∙ sym (chain_bit-at_any_index i.bits i.words.items (c.args.first + j) c.self.invariant.packed)
    ∙ ap (λ (row : List ℕ). slice_index row (c.args.first + j)) c.self.view_is
