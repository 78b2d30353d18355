use Rattle.std.proofs.Common.{◌≡◌, ◌<◌, ◌++◌, drop}
use Rattle.std.specs.List.{All}
use Rattle.mcs_asm.specs.ByteCells.{pairs_from}
use Rattle.mcs_asm.proofs.byte_cells.ByteCells.image.Given as goal

abbrev pub invariant-loop-at : goal.invariant-loop-at
invariant-loop-at l = (l.image ++ pairs_from l.at (drop l.at l.self) ≡ pairs_from 0 l.self) × All (λ p. p.0 < l.at) l.image
