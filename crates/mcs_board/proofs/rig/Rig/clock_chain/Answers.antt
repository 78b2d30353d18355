use Rattle.std.proofs.Common.{arith, sym, ap, ◌∙◌, ◌≡◌, ◌<◌, ℕ, [], ◌∷◌, get_or, length, take, slice_set, List}
use Rattle.std.proofs.lemmas.Grind.{common_steps}
use Rattle.std.proofs.lemmas.List.{get_or_default, set-get_or}
use Rattle.mcs_model.specs.declared.board.Line.{Line}
use Rattle.mcs_model.specs.Bus.{BusState}
use Rattle.mcs_model.specs.Boards.{chain_count}
use Rattle.mcs_board.specs.RigFields.{rig_parts}
use Rattle.mcs_board.specs.ClockEdges.{bits_after_latch_change}
use Rattle.mcs_board.proofs.ClockLemmas.{state-after_set_chain, wired_chains-at_index, latch_change-if_clock_rises, latch_change-without_clock_rise}
use Rattle.mcs_board.proofs.BoardMatchLemmas.{matches_board-after_set_chain}
use Rattle.mcs_board.proofs.LocationLemmas.{element_size-bounded}
use Rattle.mcs_board.proofs.rig.Rig.clock_chain.Goals as goal

length-unchanged_by_shift : (level : ℕ) (bits : List ℕ) → length (take (length bits) (level ∷ bits)) ≡ length bits
length-unchanged_by_shift level bits = grind (arith, common_steps)

pub returns-then-clock_rises : goal.returns-then-clock_rises
returns-then-clock_rises g c =
    let i = c.self.inside in
    let s = c.args.self.now in
    let board = ap (λ (s : BusState). s.board) c.self.view_is in
    let within : c.args.i < chain_count i.key_pad.board = let e = ap chain_count board in let r = c.requires in omega arith in
    let there : c.args.i < length i.chains.items = let v = c.self.invariant in omega (arith, v.chains_len, v.chains_fit) in
    let row : c.index_mut.result.now ≡ get_or s.chains c.args.i [] =
    c.index_mut.ensures.value ∙ get_or_default i.chains.items c.args.i c.index_mut.result.now [] there ∙ sym (wired_chains-at_index i.key_pad.board i.chains.items c.args.i within) ∙ ap (λ (s : BusState). get_or s.chains c.args.i []) c.self.view_is in
    let new : c.shift.new.self ≡ bits_after_latch_change s c.args.port c.args.before c.args.after c.args.i (get_or s.chains c.args.i []) =
    c.shift.ensures
    ∙ ap (λ xs. take (length xs) (c.data_level-data.result ∷ xs)) row
    ∙ latch_change-if_clock_rises s c.args.port c.args.before c.args.after c.args.i (get_or s.chains c.args.i []) c.data_level-data.result (sym c.clock_rises.ensures ∙ c.if-clock_rises.true) c.data_level-data.ensures in
    state-after_set_chain (rig_parts i) c.args.i c.shift.new.self within there
    ∙ ap (λ (t : BusState). record t { chains = slice_set t.chains c.args.i c.shift.new.self }) c.self.view_is
    ∙ ap (λ d. record s { chains = slice_set s.chains c.args.i d }) new

state-unchanged_if_bits_unchanged : (s : BusState) (port : Line) (before after i : ℕ) → bits_after_latch_change s port before after i (get_or s.chains i []) ≡ get_or s.chains i [] → s ≡ record s { chains = slice_set s.chains i (bits_after_latch_change s port before after i (get_or s.chains i [])) }
state-unchanged_if_bits_unchanged s port before after i e = sym (ap (λ d. record s { chains = slice_set s.chains i d }) e ∙ ap (λ cs. record s { chains = cs }) (set-get_or s.chains i []))

pub returns-else-clock_rises : goal.returns-else-clock_rises
returns-else-clock_rises g c =
    let s = c.args.self.now in
    state-unchanged_if_bits_unchanged s c.args.port c.args.before c.args.after c.args.i (latch_change-without_clock_rise s c.args.port c.args.before c.args.after c.args.i (get_or s.chains c.args.i []) (sym c.clock_rises.ensures ∙ c.if-clock_rises.false))

pub shift-requires : goal.shift-requires
shift-requires g c =
    let i = c.self.inside in
    let within : c.args.i < chain_count i.key_pad.board = let e = ap (λ (s : BusState). chain_count s.board) c.self.view_is in let r = c.requires in omega arith in
    let there : c.args.i < length i.chains.items = let v = c.self.invariant in omega (arith, v.chains_len, v.chains_fit) in
    element_size-bounded c.args.i (length c.as_slice-chains.result.now) _ (let l = ap length c.as_slice-chains.ensures.value in omega arith) c.as_slice-chains.type_inv.1

pub invariant_of-self : goal.invariant_of-self
invariant_of-self g c =
    let i = c.self.inside in
    let within : c.args.i < chain_count i.key_pad.board = let e = ap (λ (s : BusState). chain_count s.board) c.self.view_is in let r = c.requires in omega arith in
    let there : c.args.i < length i.chains.items = let v = c.self.invariant in omega (arith, v.chains_len, v.chains_fit) in
    let row : c.index_mut.result.now ≡ get_or i.chains.items c.args.i [] = c.index_mut.ensures.value ∙ get_or_default i.chains.items c.args.i c.index_mut.result.now [] there in
    matches_board-after_set_chain c.self.invariant c.args.i c.shift.new.self there (ap length c.shift.ensures ∙ length-unchanged_by_shift c.data_level-data.result c.index_mut.result.now ∙ ap length row)
