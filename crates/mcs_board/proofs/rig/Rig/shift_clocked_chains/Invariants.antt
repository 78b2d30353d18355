use Rattle.std.proofs.Common.{◌≡◌, ℕ, ◌<◌, ◌≤◌, length, get_or, []}
use Rattle.mcs_model.specs.Boards.{chain_count}
use Rattle.mcs_board.specs.ClockEdges.{bits_after_latch_change}
use Rattle.mcs_board.proofs.rig.Rig.shift_clocked_chains.Given as goal

abbrev pub invariant-loop-i : goal.invariant-loop-i
invariant-loop-i g l = record {
  same : l.self ≡ record l.fn.self { chains = l.self.chains };
  len : length l.self.chains ≡ chain_count l.fn.self.board;
  done : (k : ℕ) → k < l.i → get_or l.self.chains k [] ≡ bits_after_latch_change l.fn.self l.port l.before l.after k (get_or l.fn.self.chains k []);
  rest : (k : ℕ) → l.i ≤ k → get_or l.self.chains k [] ≡ get_or l.fn.self.chains k [];
}
