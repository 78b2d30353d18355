use Rattle.std.proofs.Common.{ap, ◌∙◌, length}
use Rattle.mcs_search.specs.StateStores.{StateStore}
use Rattle.mcs_search.proofs.Blocks.{arena-length}
use Rattle.mcs_search.proofs.arena.Arena.len.Goals as goal

pub returns : goal.returns
returns c =
    let a = c.self.inside in
    arena-length a.width a.len a.full.items a.last c.self.invariant ∙ ap (λ (s : StateStore). length s.states) c.self.view_is
