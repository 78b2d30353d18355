use Rattle.std.proofs.Common.{◌≡◌, ◌+◌, ◌*◌, ◌-◌, [], sym, ap, ◌∙◌, length, take, drop, get_or, arith}
use Rattle.mcs_search.specs.StateStores.{StateStore}
use Rattle.mcs_search.proofs.StateLists.{length-states_in_bytes, state-at_index, state_end-within_bytes}
use Rattle.mcs_search.proofs.block.StateBlock.state.Goals as goal

pub overflow_mul-at : goal.overflow_mul-at
overflow_mul-at c =
    let f = c.self.inside in
    let n = length-states_in_bytes f.width f.len f.bytes.items in
    let v = ap (λ (s : StateStore). length s.states) c.self.view_is in
    let k = state_end-within_bytes f.width f.len c.args.i (length f.bytes.items) (omega arith) c.self.invariant in
    omega arith

pub overflow_add-result : goal.overflow_add-result
overflow_add-result c =
    let f = c.self.inside in
    let n = length-states_in_bytes f.width f.len f.bytes.items in
    let v = ap (λ (s : StateStore). length s.states) c.self.view_is in
    let k = state_end-within_bytes f.width f.len c.args.i (length f.bytes.items) (omega arith) c.self.invariant in
    omega arith

pub slice_bounds-result-end : goal.slice_bounds-result-end
slice_bounds-result-end c =
    let f = c.self.inside in
    let n = length-states_in_bytes f.width f.len f.bytes.items in
    let v = ap (λ (s : StateStore). length s.states) c.self.view_is in
    let k = state_end-within_bytes f.width f.len c.args.i (length f.bytes.items) (omega arith) c.self.invariant in
    let e = ap length c.deref.ensures.value in
    omega arith

pub returns-clause-state : goal.returns-clause-state
returns-clause-state c =
    let f = c.self.inside in
    let n = length-states_in_bytes f.width f.len f.bytes.items in
    let v = ap (λ (s : StateStore). length s.states) c.self.view_is in
    let at = c.args.i * f.width in
    let w : at + f.width - at ≡ f.width = omega arith in
    ap (λ m. take m (drop at c.deref.result.now)) w
    ∙ ap (λ xs. take f.width (drop at xs)) c.deref.ensures.value
    ∙ sym (state-at_index f.width f.len c.args.i f.bytes.items (omega arith))
    ∙ ap (λ (s : StateStore). get_or s.states c.args.i []) c.self.view_is
