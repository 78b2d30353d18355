use Rattle.std.proofs.Common.{◌≡◌, length, take}
use Rattle.mcs_drive.specs.TrackedMachine.{TrackedMachine}
use Rattle.mcs_check.specs.Conditions.{meets_none}
use Rattle.mcs_check.proofs.Opening.{opens_after_marks}
use Rattle.mcs_check.proofs.marks.add_mark_requirement.Given as goal

abbrev pub invariant-loop-i : goal.invariant-loop-i
invariant-loop-i l = (s : TrackedMachine) → meets_none l.never_lists.items s ≡ opens_after_marks l.fn.never_lists.items (take l.i l.opens) (length l.marks) s
