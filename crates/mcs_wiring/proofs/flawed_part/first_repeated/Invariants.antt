use Rattle.std.proofs.Common.{◌≡◌, [], drop, take}
use Rattle.mcs_wiring.specs.Parts.{first_repeated_from}
use Rattle.mcs_wiring.proofs.PartLists.{reversed_numbers}
use Rattle.mcs_wiring.proofs.flawed_part.first_repeated.Given as goal

abbrev pub invariant-loop-i : goal.invariant-loop-i
invariant-loop-i g l = first_repeated_from (reversed_numbers [] (take l.i l.parts)) l.i (drop l.i l.parts) ≡ first_repeated_from [] 0 l.parts
