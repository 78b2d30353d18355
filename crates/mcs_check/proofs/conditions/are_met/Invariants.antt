use Rattle.std.proofs.Common.{◌≡◌, drop}
use Rattle.mcs_check.specs.Conditions.{are_met}
use Rattle.mcs_check.proofs.conditions.are_met.Given as goal

abbrev pub invariant-loop-i : goal.invariant-loop-i
invariant-loop-i l = are_met l.replica (drop l.i l.conditions) ≡ are_met l.replica l.conditions
