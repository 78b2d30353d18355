use Rattle.std.proofs.Common.{◌≡◌, ◌+◌, drop, length}
use Rattle.mcs_asm.specs.ByteCells.{cells_after_write}
use Rattle.mcs_asm.proofs.byte_cells.ByteCells.write.Given as goal

abbrev pub invariant-loop-i : goal.invariant-loop-i
invariant-loop-i l = (cells_after_write (l.at + l.i) (drop l.i l.bytes) l.self-inside.bytes.items ≡ cells_after_write l.at l.bytes l.fn.self) × (length l.self-inside.bytes.items ≡ 4096)
