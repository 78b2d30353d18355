use Rattle.std.proofs.Common.{◌≡◌, ◌<◌, ℕ, length, slice_index}
use Rattle.std.specs.List.{All}
use Rattle.mcs_search.specs.Rules.{LeadsInto}
use Rattle.mcs_search.specs.StateStores.{Grows}
use Rattle.mcs_search.proofs.expanding.expand_state.Given as goal

abbrev pub invariant-loop-i : goal.invariant-loop-i
invariant-loop-i g l = record {
  setting : g.S.System.setting l.system ≡ g.S.System.setting l.fn.system;
  grows : Grows l.fn.visited l.visited;
  states : All (g.S.System.rules (g.S.System.setting l.fn.system)).is_state l.visited.states;
  expanded : (k : ℕ) → k < l.i → LeadsInto (g.S.System.rules (g.S.System.setting l.fn.system)) l.visited.states l.fn.state (slice_index l.choices k);
  below_limit : length l.visited.states < 4294967295;
  into : length l.into ≡ length l.fn.state;
}
