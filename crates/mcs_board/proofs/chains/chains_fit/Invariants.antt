use Rattle.std.proofs.Common.{ℕ, ◌<◌, ◌≤◌}
use Rattle.mcs_model.specs.Boards.{chain_bits}
use Rattle.mcs_board.proofs.chains.chains_fit.Given as goal

abbrev pub invariant-loop-i : goal.invariant-loop-i
invariant-loop-i l = (k : ℕ) → k < l.i → chain_bits l.board k ≤ l.size
