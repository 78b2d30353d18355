use Rattle.std.proofs.Common.{◌≡◌, ℕ, ◌<◌, get_or, length}
use Rattle.mcs_bench.proofs.restoring.nibbles.Given as goal

abbrev pub invariant-loop-i : goal.invariant-loop-i
invariant-loop-i l = record {
  len : length l.nibbles ≡ length l.numbers;
  done : (k : ℕ) → k < l.i → get_or l.nibbles k 0 ≡ get_or l.numbers k 0;
}
