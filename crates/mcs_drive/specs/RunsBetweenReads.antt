-- Runs from one read of an input to the next.
use Rattle.std.specs.Prelude.{◌≡◌, ◌<◌, ◌≤◌, ℕ, suc, Bool, true, false, None}
use Rattle.mcs_model.specs.Boards.{board_fault_of}
use Rattle.mcs_drive.specs.DrivenRuns.{Levels}
use Rattle.mcs_drive.specs.TrackedMachine.{Observer, TrackedMachine, with_levels, without_levels, after_cycles, next_reads_input, value_read}

-- holds if the property `p` does not depend on the input levels
abbrev pub IgnoresLevels : (TrackedMachine → Bool) → Type 0
IgnoresLevels p = (s : TrackedMachine) → p s ≡ p (without_levels s)

-- Holds if `a`, at the input levels `l`, reaches `b` in one or more cycles. The input levels of the
-- reached machine and of `b` are ignored. Only the first cycle can read an input, and `p` holds
-- after each cycle.
pub record LeadsTo (w : Observer) (p : TrackedMachine → Bool) (a b : TrackedMachine) (l : Levels) : Type 0 where
  pub more : ℕ
  pub quiet : (i : ℕ) → i < more → next_reads_input (after_cycles w (suc i) (with_levels l a)) ≡ false
  pub property_holds : (i : ℕ) → i ≤ more → p (after_cycles w (suc i) (with_levels l a)) ≡ true
  pub same : without_levels (after_cycles w (suc more) (with_levels l a)) ≡ without_levels b

-- Suppose that the next instruction of `a` reads the same value at the levels `l` and `m`. A run
-- from `a` to `b` at the levels `m` is then also a run at the levels `l`.
abbrev pub SameReadGivesSameRun : Type 0
SameReadGivesSameRun =
    (w : Observer) (p : TrackedMachine → Bool) (a b : TrackedMachine) (l m : Levels) → IgnoresLevels p → board_fault_of a.1.board ≡ None →
    value_read l a ≡ value_read m a → LeadsTo w p a b m → LeadsTo w p a b l
