use Rattle.std.proofs.Common.{◌≡◌, ◌*◌, ◌<◌, ◌∙◌, [], sym, ap, arith, length, get_or, slice_set}
use Rattle.std.proofs.lemmas.List.{get_or_default, length-set}
use Rattle.mcs_model.specs.declared.board.BoardParts.{BoardParts}
use Rattle.mcs_model.specs.declared.board.ChainPart.{ChainPart}
use Rattle.mcs_model.specs.Boards.{chain_count, chain_bits, chain_part}
use Rattle.mcs_model.specs.Bus.{BusState}
use Rattle.mcs_model.specs.ChipWrites.{with_chain_bit}
use Rattle.mcs_board.specs.RigFields.{rig_parts}
use Rattle.mcs_board.proofs.ClockLemmas.{wired_chains-at_index, state-after_set_chain}
use Rattle.mcs_board.proofs.BoardMatchLemmas.{matches_board-after_set_chain}
use Rattle.mcs_board.proofs.LocationLemmas.{with_chain_bit-of_absent_chain, with_chain_bit-past_chain_end, element_size-bounded}
use Rattle.mcs_board.proofs.rig.Rig.set_chain_bit.Goals as goal

pub returns-then-n-chain_count : goal.returns-then-n-chain_count
returns-then-n-chain_count g c =
    let many = c.chain_count.ensures.rows in
    let count = c.chain_count.ensures.count in
    with_chain_bit-of_absent_chain c.args.self.now c.args.chain c.args.i c.args.bit (omega arith)

pub returns-then-index-from : goal.returns-then-index-from
returns-then-index-from g c =
    let i = c.self.inside in
    let s = c.args.self.now in
    let board : s.board ≡ i.key_pad.board = sym (ap (λ (t : BusState). t.board) c.self.view_is) in
    let same = ap chain_count board in
    let count = c.chain_count.ensures.count in
    let within : c.args.chain < chain_count i.key_pad.board = omega arith in
    let row : get_or s.chains c.args.chain [] ≡ get_or i.chains.items c.args.chain [] = ap (λ (t : BusState). get_or t.chains c.args.chain []) (sym c.self.view_is) ∙ wired_chains-at_index i.key_pad.board i.chains.items c.args.chain within in
    let bits : c.from.result ≡ chain_bits i.key_pad.board c.args.chain = c.from.ensures ∙ c.bits.ensures ∙ ap (λ (p : ChainPart). 10 * p.chips) (c.chain.ensures ∙ ap (λ (b : BoardParts). chain_part b c.from-n.result) (c.board.ensures ∙ board)) ∙ ap (chain_bits i.key_pad.board) c.from-n.ensures in
    let len : length (get_or s.chains c.args.chain []) ≡ c.from.result = ap length row ∙ c.self.invariant.bits c.args.chain within ∙ sym bits in
    with_chain_bit-past_chain_end s c.args.chain c.args.i c.args.bit (omega arith)

pub invariant_of-self : goal.invariant_of-self
invariant_of-self g c =
    let i = c.self.inside in
    let there : c.from-n.result < length i.chains.items = omega (arith, c.self.invariant.chains_len, c.self.invariant.chains_fit) in
    let row : c.index_mut.result.now ≡ get_or i.chains.items c.from-n.result [] = c.index_mut.ensures.value ∙ get_or_default i.chains.items c.from-n.result c.index_mut.result.now [] there in
    matches_board-after_set_chain c.self.invariant c.from-n.result c.set_bit.new.self there (ap length c.set_bit.ensures ∙ length-set c.index_mut.result.now c.from-index.result c.args.bit ∙ ap length row)

pub returns : goal.returns
returns g c =
    let i = c.self.inside in
    let s = c.args.self.now in
    let n = c.from-n.result in
    let board : c.args.self.now.board ≡ i.key_pad.board = sym (ap (λ (t : BusState). t.board) c.self.view_is) in
    let same = ap chain_count board in
    let count = c.chain_count.ensures.count in
    let within : n < chain_count i.key_pad.board = omega arith in
    let there : n < length i.chains.items = omega (arith, c.self.invariant.chains_len, c.self.invariant.chains_fit) in
    let row : c.index_mut.result.now ≡ get_or s.chains n [] = c.index_mut.ensures.value ∙ get_or_default i.chains.items n c.index_mut.result.now [] there ∙ sym (wired_chains-at_index i.key_pad.board i.chains.items n within) ∙ ap (λ (t : BusState). get_or t.chains n []) c.self.view_is in
    let new : c.set_bit.new.self ≡ slice_set (get_or s.chains n []) c.from-index.result c.args.bit = c.set_bit.ensures ∙ ap (λ xs. slice_set xs c.from-index.result c.args.bit) row in
    state-after_set_chain (rig_parts i) n c.set_bit.new.self within there
    ∙ ap (λ (t : BusState). record t { chains = slice_set t.chains n c.set_bit.new.self }) c.self.view_is
    ∙ ap (λ d. record s { chains = slice_set s.chains n d }) new
    ∙ ap (λ k. with_chain_bit s k c.from-index.result c.args.bit) c.from-n.ensures
    ∙ ap (λ k. with_chain_bit s c.args.chain k c.args.bit) c.from-index.ensures

pub set_bit-requires : goal.set_bit-requires
set_bit-requires g c =
    let i = c.self.inside in
    let n = c.from-n.result in
    let board : c.args.self.now.board ≡ i.key_pad.board = sym (ap (λ (t : BusState). t.board) c.self.view_is) in
    let same = ap chain_count board in
    let count = c.chain_count.ensures.count in
    let within : n < chain_count i.key_pad.board = omega arith in
    let there : n < length i.chains.items = omega (arith, c.self.invariant.chains_len, c.self.invariant.chains_fit) in
    let row : c.index_mut.result.now ≡ get_or i.chains.items n [] = c.index_mut.ensures.value ∙ get_or_default i.chains.items n c.index_mut.result.now [] there in
    let bits : c.from.result ≡ chain_bits i.key_pad.board n = c.from.ensures ∙ c.bits.ensures ∙ ap (λ (p : ChainPart). 10 * p.chips) (c.chain.ensures ∙ ap (λ (b : BoardParts). chain_part b n) (c.board.ensures ∙ board)) in
    let len : length c.index_mut.result.now ≡ chain_bits i.key_pad.board n = ap length row ∙ c.self.invariant.bits n within in
    (element_size-bounded n (length c.as_slice-chains.result.now) _ (let l = ap length c.as_slice-chains.ensures.value in omega arith) c.as_slice-chains.type_inv.1, omega arith)
