use Rattle.std.proofs.Common.{◌≡◌, ◌<◌, ◌≤◌, ℕ, get_or, true}
use Rattle.mcs_check.specs.declared.cells.StateByte.{StateByte}
use Rattle.mcs_check.specs.Memory.{is_memory_byte}
use Rattle.mcs_check.proofs.last_vector.bytes_before_memory.Given as goal

abbrev pub invariant-loop-i : goal.invariant-loop-i
invariant-loop-i l = record {
  fits : l.front ≤ l.i;
  memory : (k : ℕ) (d : StateByte) → l.front ≤ k → k < l.i → is_memory_byte (get_or l.layout k d) ≡ true;
}
