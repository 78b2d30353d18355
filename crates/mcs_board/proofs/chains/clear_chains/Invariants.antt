use Rattle.std.proofs.Common.{◌≡◌, ℕ, ◌<◌, ◌≤◌, [], length, get_or, replicate}
use Rattle.mcs_board.proofs.chains.clear_chains.Given as goal

abbrev pub invariant-loop-i : goal.invariant-loop-i
invariant-loop-i g l = record {
  len : length l.chains.items ≡ length l.fn.chains.items;
  done : (k : ℕ) → k < l.i → get_or l.chains.items k [] ≡ replicate (length (get_or l.fn.chains.items k [])) 0;
  rest : (k : ℕ) → l.i ≤ k → get_or l.chains.items k [] ≡ get_or l.fn.chains.items k [];
}
