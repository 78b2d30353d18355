use Rattle.std.proofs.Common.{◌≡◌, drop, map}
use Rattle.toml.specs.View.{view}
use Rattle.mcs_wiring.specs.Parts.{first_flawed_from}
use Rattle.mcs_wiring.proofs.flawed_part.first_flawed_value.Given as goal

abbrev pub invariant-loop-i : goal.invariant-loop-i
invariant-loop-i l = first_flawed_from l.flaw l.section l.i (map view (drop l.i l.values)) ≡ first_flawed_from l.flaw l.section 0 (map view l.values)
