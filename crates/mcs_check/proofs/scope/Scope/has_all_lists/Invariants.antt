use Rattle.std.proofs.Common.{◌≡◌, drop}
use Rattle.mcs_check.specs.Scopes.{has_all_lists}
use Rattle.mcs_check.proofs.scope.Scope.has_all_lists.Given as goal

abbrev pub invariant-loop-i : goal.invariant-loop-i
invariant-loop-i l = has_all_lists l.self (drop l.i l.never_lists) ≡ has_all_lists l.self l.never_lists
