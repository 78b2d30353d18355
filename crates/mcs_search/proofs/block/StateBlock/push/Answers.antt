use Rattle.std.proofs.Common.{◌+◌, [], ◌∷◌, ◌++◌, sym, ap, ◌∙◌, length, arith}
use Rattle.mcs_search.specs.StateStores.{StateStore, states_in_bytes}
use Rattle.mcs_search.proofs.StateLists.{length-states_in_bytes, states_in_bytes-append_state}
use Rattle.mcs_search.proofs.block.StateBlock.push.Goals as goal

pub overflow_add-self : goal.overflow_add-self
overflow_add-self c =
    let f = c.self.inside in
    let n = length-states_in_bytes f.width f.len f.bytes.items in
    let v = ap (λ (s : StateStore). length s.states) c.self.view_is in
    omega arith

pub returns-clause-states : goal.returns-clause-states
returns-clause-states c =
    let f = c.self.inside in
    let w = ap (λ (s : StateStore). s.width) c.self.view_is in
    ap (states_in_bytes f.width (f.len + 1)) c.in_ok-extend_from_slice.ensures.items
    ∙ states_in_bytes-append_state f.width f.len f.bytes.items c.args.state.now c.self.invariant (c.requires.width ∙ sym w)
    ∙ ap (λ (s : StateStore). s.states ++ c.args.state.now ∷ []) c.self.view_is
