use Rattle.std.proofs.Common.{◌≡◌, ◌<◌, ℕ, get_or, slice_index, true}
use Rattle.mcs_check.specs.declared.cells.StateByte.{StateByte}
use Rattle.mcs_check.specs.StateVectors.{KeepsBoardAndInputs}
use Rattle.mcs_check.specs.Memory.{KeepsMemory, is_memory_byte}
use Rattle.mcs_check.proofs.replica.SearchMachine.set_changed_cells.Given as goal

abbrev pub invariant-loop-i : goal.invariant-loop-i
invariant-loop-i l = record {
  keeps : KeepsBoardAndInputs l.fn.self.1 l.self.1;
  memory : l.keeps_memory ≡ true → KeepsMemory l.fn.self.1 l.self.1;
  current : l.keeps_memory ≡ true → l.last.is_current ≡ true;
  equal : l.keeps_memory ≡ true → (k : ℕ) (d : StateByte) → k < l.i → is_memory_byte (get_or l.layout k d) ≡ true → slice_index l.last.bytes.items k ≡ slice_index l.vector k;
}
