-- The execution of one instruction by a processor.
use Rattle.std.specs.Prelude.{◌≡◌, ℕ, ◌<◌, ◌≤◌, true, false}
use Rattle.mcs_model.specs.Running.{Machine, after_cycles, is_outside_table}

-- Holds if `k` cycles of one instruction lead from machine `s` to machine `t`, and `k` is at most
-- `left`. If `k` is 0, the opcode at the program counter of `s` is outside the opcode table.
pub record IsInstructionRun (left : ℕ) (s t : Machine) (k : ℕ) : Type 0 where
  pub within : k ≤ left
  pub machine : t ≡ after_cycles k s
  pub none : k ≡ 0 → is_outside_table s ≡ true
  pub inside : (j : ℕ) → j < k → is_outside_table (after_cycles j s) ≡ false
  pub between : (j : ℕ) → 0 < j → j < k → (after_cycles j s).0.owed ≡ 1
