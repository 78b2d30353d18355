use Rattle.std.proofs.Common.{arith, sym, ap, refl, ◌∙◌, ◌≡◌, ◌<◌, ℕ, zero, suc, List, [], ◌∷◌, Some, None, length, get_or, slice_get}
use Rattle.std.proofs.lemmas.List.{get_or_default}
use Rattle.mcs_model.specs.Bus.{BusState}
use Rattle.mcs_model.specs.Boards.{chain_count}
use Rattle.mcs_board.proofs.ClockLemmas.{wired_chains-at_index}
use Rattle.mcs_board.proofs.rig.Rig.bit_of_present_chain.Goals as goal

zero_if_slice_get_none : (xs : List ℕ) (i : ℕ) → None ≡ slice_get xs i → 0 ≡ get_or xs i 0
zero_if_slice_get_none [] i h = refl
zero_if_slice_get_none (x ∷ xs) zero h = absurd (cc)
zero_if_slice_get_none (x ∷ xs) (suc i) h = zero_if_slice_get_none xs i h

element_if_slice_get_some : (xs : List ℕ) (i b : ℕ) → Some b ≡ slice_get xs i → b ≡ get_or xs i 0
element_if_slice_get_some [] i b h = absurd (cc)
element_if_slice_get_some (x ∷ xs) zero b h = cc
element_if_slice_get_some (x ∷ xs) (suc i) b h = element_if_slice_get_some xs i b h

pub returns-in-Some : goal.returns-in-Some
returns-in-Some g c =
    let i = c.self.inside in
    let e = ap (λ (s : BusState). chain_count s.board) c.self.view_is in
    let within : c.args.n < chain_count i.key_pad.board = let r = c.requires in omega arith in
    let there : c.args.n < length i.chains.items = let v = c.self.invariant in omega (arith, v.chains_len, v.chains_fit) in
    let row : c.index-chains-n.result ≡ get_or c.args.self.now.chains c.args.n [] =
    c.index-chains-n.is ∙ ap (λ xs. get_or xs c.args.n c.index-chains-n.result) c.as_slice-chains.ensures.value ∙ get_or_default i.chains.items c.args.n c.index-chains-n.result [] there ∙ sym (wired_chains-at_index i.key_pad.board i.chains.items c.args.n within) ∙ ap (λ (s : BusState). get_or s.chains c.args.n []) c.self.view_is in
    element_if_slice_get_some (get_or c.args.self.now.chains c.args.n []) c.args.i c.in-Some.bit (sym c.in-Some.is ∙ c.bit.ensures ∙ ap (λ xs. slice_get xs c.args.i) row)

pub returns-in-None : goal.returns-in-None
returns-in-None g c =
    let i = c.self.inside in
    let e = ap (λ (s : BusState). chain_count s.board) c.self.view_is in
    let within : c.args.n < chain_count i.key_pad.board = let r = c.requires in omega arith in
    let there : c.args.n < length i.chains.items = let v = c.self.invariant in omega (arith, v.chains_len, v.chains_fit) in
    let row : c.index-chains-n.result ≡ get_or c.args.self.now.chains c.args.n [] =
    c.index-chains-n.is ∙ ap (λ xs. get_or xs c.args.n c.index-chains-n.result) c.as_slice-chains.ensures.value ∙ get_or_default i.chains.items c.args.n c.index-chains-n.result [] there ∙ sym (wired_chains-at_index i.key_pad.board i.chains.items c.args.n within) ∙ ap (λ (s : BusState). get_or s.chains c.args.n []) c.self.view_is in
    zero_if_slice_get_none (get_or c.args.self.now.chains c.args.n []) c.args.i (sym c.in-None.is ∙ c.bit.ensures ∙ ap (λ xs. slice_get xs c.args.i) row)
