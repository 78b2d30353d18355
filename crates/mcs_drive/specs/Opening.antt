-- Conditions that become true only after the keys were at given levels, in a given order.
use Rattle.std.specs.Prelude.{◌≡◌, ◌<◌, ◌≤◌, ◌-◌, ◌⊎◌, ℕ, Bool, true, false, None, length, nat_lt, not, ◌&&◌}
use Rattle.mcs_model.specs.Boards.{board_fault_of}
use Rattle.mcs_drive.specs.DrivenRuns.{AreInputsAllowed, InputLimits, Levels}
use Rattle.mcs_drive.specs.Marks.{PassesMarks}
use Rattle.mcs_drive.specs.TrackedMachine.{Observer, TrackedMachine, Holds, driven, condition_holds_at}

-- true unless the condition of an observer holds before all marks of the observer are seen
abbrev pub holds_only_after_marks : Observer → TrackedMachine → Bool
holds_only_after_marks w s = not (condition_holds_at w s && nat_lt s.2.seen (length w.marks))

-- Holds if a condition becomes true at moment `b`, and is false from moment `a` until then. Moment
-- `a` is the start of the run, or the moment after the condition last held. `holds i` is true if
-- the condition holds at moment `i`.
pub record BecomesTrue (holds : ℕ → Bool) (a b : ℕ) : Type 0 where
  pub start : (a ≡ 0) ⊎ ((a < b) × (holds (a - 1) ≡ true))
  pub false_before : (i : ℕ) → a ≤ i → i < b → holds i ≡ false
  pub true_at_end : holds b ≡ true

-- Suppose that the condition of an observer never holds before all its marks are seen. Then, each
-- time the condition becomes true, the keys have been at the marks, in order, since the condition
-- last held or since the start of the run.
abbrev pub MarksPrecedeCondition : Type 0
MarksPrecedeCondition =
    (limits : InputLimits) (w : Observer) (s : TrackedMachine) → s.2.seen ≡ 0 → board_fault_of s.1.board ≡ None →
    Holds limits w (holds_only_after_marks w) s →
    (f : ℕ → Levels) → AreInputsAllowed limits s.1.board f →
    (a b : ℕ) → BecomesTrue (λ i. condition_holds_at w (driven w f i s)) a b → PassesMarks s.1.board f w.marks a b
