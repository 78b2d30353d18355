use Rattle.std.proofs.Common.{◌≡◌, ℕ, ◌<◌, ◌≤◌, get_or}
use Rattle.mcs_board.proofs.banks.banks_fit.Given as goal

abbrev pub invariant-loop-i : goal.invariant-loop-i
invariant-loop-i l = (k : ℕ) → l.sockets ≤ k → k < l.i → get_or l.board.banks k 0 ≡ 0
