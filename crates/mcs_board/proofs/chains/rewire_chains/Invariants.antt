use Rattle.std.proofs.Common.{◌≡◌, ℕ, ◌<◌, [], length, get_or, replicate}
use Rattle.mcs_model.specs.Boards.{chain_bits}
use Rattle.mcs_board.proofs.chains.rewire_chains.Given as goal

abbrev pub invariant-loop-i : goal.invariant-loop-i
invariant-loop-i g l = record {
  len : length l.chains.items ≡ length l.fn.chains.items;
  done : (k : ℕ) → k < l.i → get_or l.chains.items k [] ≡ replicate (chain_bits l.board k) 0;
}
