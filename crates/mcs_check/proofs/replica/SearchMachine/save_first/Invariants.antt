use Rattle.std.proofs.Common.{◌≡◌, ◌≤◌, ℕ, length, slice_index}
use Rattle.mcs_check.specs.Memory.{HasFirstBytes}
use Rattle.mcs_check.proofs.replica.SearchMachine.save_first.Given as goal

abbrev pub invariant-loop-i : goal.invariant-loop-i
invariant-loop-i l = record {
  len : length l.vector ≡ length l.initial.vector;
  done : HasFirstBytes l.self l.layout l.vector l.i;
  others : (k : ℕ) → l.count ≤ k → slice_index l.vector k ≡ slice_index l.initial.vector k;
}
