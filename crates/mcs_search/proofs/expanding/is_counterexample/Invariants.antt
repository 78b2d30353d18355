use Rattle.std.proofs.Common.{◌≡◌, length, drop}
use Rattle.mcs_search.specs.Rules.{IsCounterexample}
use Rattle.mcs_search.proofs.expanding.is_counterexample.Given as goal

abbrev pub invariant-loop-choice : goal.invariant-loop-choice
invariant-loop-choice g l = record {
  setting : g.S.System.setting l.system ≡ g.S.System.setting l.fn.system;
  state : (g.S.System.rules (g.S.System.setting l.fn.system)).is_state l.state;
  into : length l.into ≡ length l.state;
  rest : IsCounterexample (g.S.System.rules (g.S.System.setting l.fn.system)) l.state (drop l.choice-index l.choices) → IsCounterexample (g.S.System.rules (g.S.System.setting l.fn.system)) l.fn.state l.choices;
}
