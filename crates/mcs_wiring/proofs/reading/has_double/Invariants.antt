use Rattle.std.proofs.Common.{◌≡◌, drop}
use Rattle.mcs_wiring.specs.Wiring.{has_double}
use Rattle.mcs_wiring.proofs.reading.has_double.Given as goal

abbrev pub invariant-loop-i : goal.invariant-loop-i
invariant-loop-i g l = has_double (drop l.i l.parts) ≡ has_double l.parts
