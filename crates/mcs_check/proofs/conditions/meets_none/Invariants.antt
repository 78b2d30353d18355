use Rattle.std.proofs.Common.{◌≡◌, drop}
use Rattle.mcs_check.specs.Conditions.{meets_none}
use Rattle.mcs_check.proofs.conditions.meets_none.Given as goal

abbrev pub invariant-loop-i : goal.invariant-loop-i
invariant-loop-i l = meets_none (drop l.i l.never_lists) l.replica ≡ meets_none l.never_lists l.replica
