use Rattle.std.proofs.Common.{◌≡◌, drop}
use Rattle.mcs_wiring.specs.Wiring.{part_at}
use Rattle.mcs_wiring.proofs.reading.part_at.Given as goal

abbrev pub invariant-loop-part : goal.invariant-loop-part
invariant-loop-part g l = part_at l.none (drop l.part-index l.parts) l.number ≡ part_at l.none l.parts l.number
