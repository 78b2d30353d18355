use Rattle.std.proofs.Common.{◌≡◌, ◌+◌, ◌++◌, [], ◌∷◌, List, sym, ap, ◌∙◌, subst, arith}
use Rattle.mcs_search.specs.StateStores.{StateStore, ArenaInvariant, states_of_blocks}
use Rattle.mcs_search.proofs.Blocks.{arena_invariant-after_block_filled, arena_states-after_block_filled}
use Rattle.mcs_search.proofs.arena.Arena.push.Goals as goal

pub invariant_of-self-2 : goal.invariant_of-self-2
invariant_of-self-2 c =
    let a = c.self.inside in
    let pushed = c.push.new.self in
    let next = c.replace-block.new.dest in
    let n = c.len.ensures in
    let items : c.push_reserved.new.self.items ≡ a.full.items ++ pushed ∷ [] = c.push_reserved.ensures.items ∙ ap (λ (bs : List StateStore). bs ++ c.replace-block.result ∷ []) c.reserve.ensures.items ∙ ap (λ (b : StateStore). a.full.items ++ b ∷ []) c.replace-block.ensures.value in
    let filled_block = arena_invariant-after_block_filled a.width a.len a.full.items a.last pushed next c.args.state.now c.self.invariant c.push.ensures.width c.in_ok-push.ensures.states (let t = c.if-len-lt-STATES_PER_BLOCK.false in omega arith) (c.replace-block.ensures.after ∙ c.new.ensures) in
    subst (λ (bs : List StateStore). ArenaInvariant a.width (a.len + 1) bs next) (sym items) filled_block

pub returns-clause-states : goal.returns-clause-states
returns-clause-states c =
    let a = c.self.inside in
    let pushed = c.push.new.self in
    let next = c.replace-block.new.dest in
    let items : c.push_reserved.new.self.items ≡ a.full.items ++ pushed ∷ [] = c.push_reserved.ensures.items ∙ ap (λ (bs : List StateStore). bs ++ c.replace-block.result ∷ []) c.reserve.ensures.items ∙ ap (λ (b : StateStore). a.full.items ++ b ∷ []) c.replace-block.ensures.value in
    ap (λ (bs : List StateStore). states_of_blocks bs ++ next.states) items
    ∙ arena_states-after_block_filled a.width a.full.items a.last pushed next c.args.state.now c.in_ok-push.ensures.states (c.replace-block.ensures.after ∙ c.new.ensures)
    ∙ ap (λ (s : StateStore). s.states ++ c.args.state.now ∷ []) c.self.view_is
