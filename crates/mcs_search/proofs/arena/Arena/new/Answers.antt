use Rattle.std.proofs.Common.{◌++◌, ap, ◌∙◌}
use Rattle.mcs_search.specs.StateStores.{StateStore, states_of_blocks}
use Rattle.mcs_search.proofs.Blocks.{arena_invariant-of_empty_arena}
use Rattle.mcs_search.proofs.arena.Arena.new.Goals as goal

pub invariant_of-result : goal.invariant_of-result
invariant_of-result c = arena_invariant-of_empty_arena c.args.width c.new.result.items c.new-2.result c.new.ensures.items c.new-2.ensures

pub returns : goal.returns
unfolding states_of_blocks
returns c =
    ap (λ bs. record { width = c.args.width; states = states_of_blocks bs ++ c.new-2.result.states }) c.new.ensures.items
    ∙ ap (λ (s : StateStore). record { width = c.args.width; states = s.states }) c.new-2.ensures
