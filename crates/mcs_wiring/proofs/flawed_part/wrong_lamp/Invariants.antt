use Rattle.std.proofs.Common.{◌≡◌, drop}
use Rattle.mcs_wiring.specs.Parts.{wrong_lamp_from}
use Rattle.mcs_wiring.proofs.flawed_part.wrong_lamp.Given as goal

abbrev pub invariant-loop-i : goal.invariant-loop-i
invariant-loop-i l = wrong_lamp_from l.flaw l.parts l.i (drop l.i l.lamps) ≡ wrong_lamp_from l.flaw l.parts 0 l.lamps
