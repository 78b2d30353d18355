use Rattle.std.proofs.Common.{◌%◌, [], ap, ◌∙◌, length, get_or, arith}
use Rattle.mcs_search.specs.StateStores.{StateStore}
use Rattle.mcs_search.proofs.Blocks.{arena_state-in_full_block, arena_state-in_last_block, index-in_last_block}
use Rattle.mcs_search.proofs.arena.Arena.state.Goals as goal

pub returns-then-i-len-clause-state : goal.returns-then-i-len-clause-state
returns-then-i-len-clause-state c =
    let a = c.self.inside in
    let n = c.len.ensures in
    let ok = a.full.ok.0 in
    c.state.ensures.state
    ∙ ap (λ (b : StateStore). get_or b.states (c.args.i % 65536) []) c.index.ensures
    ∙ arena_state-in_full_block a.width a.len c.args.i a.full.items a.last _ c.self.invariant (omega arith)
    ∙ ap (λ (s : StateStore). get_or s.states c.args.i []) c.self.view_is

pub state-requires-else-i-len : goal.state-requires-else-i-len
state-requires-else-i-len c =
    let a = c.self.inside in
    let n = c.len.ensures in
    let ok = a.full.ok.0 in
    let v = ap (λ (s : StateStore). length s.states) c.self.view_is in
    (index-in_last_block a.width a.len c.args.i a.full.items a.last c.self.invariant (omega arith) (omega arith)).1

pub returns-else-i-len-clause-state : goal.returns-else-i-len-clause-state
returns-else-i-len-clause-state c =
    let a = c.self.inside in
    let n = c.len.ensures in
    let ok = a.full.ok.0 in
    let v = ap (λ (s : StateStore). length s.states) c.self.view_is in
    c.state-else-i-len.ensures.state
    ∙ arena_state-in_last_block a.width a.len c.args.i a.full.items a.last c.self.invariant (omega arith) (omega arith)
    ∙ ap (λ (s : StateStore). get_or s.states c.args.i []) c.self.view_is
