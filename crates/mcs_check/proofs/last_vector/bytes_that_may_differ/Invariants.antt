use Rattle.std.proofs.Common.{◌≡◌, ◌<◌, ◌≤◌, ℕ, slice_index}
use Rattle.mcs_check.proofs.last_vector.bytes_that_may_differ.Given as goal

abbrev pub invariant-loop-i : goal.invariant-loop-i
invariant-loop-i l = (k : ℕ) → l.front ≤ k → k < l.i → slice_index l.last k ≡ slice_index l.vector k
