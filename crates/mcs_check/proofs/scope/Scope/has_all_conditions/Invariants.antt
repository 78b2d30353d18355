use Rattle.std.proofs.Common.{◌≡◌, drop}
use Rattle.mcs_check.specs.Scopes.{has_all_conditions}
use Rattle.mcs_check.proofs.scope.Scope.has_all_conditions.Given as goal

abbrev pub invariant-loop-i : goal.invariant-loop-i
invariant-loop-i l = has_all_conditions l.self (drop l.i l.conditions) ≡ has_all_conditions l.self l.conditions
