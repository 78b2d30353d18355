use Rattle.std.proofs.Common.{◌≡◌, ◌≤◌, replicate, None}
use Rattle.mcs_asm.proofs.byte_cells.ByteCells.new.Given as goal

abbrev pub invariant-loop-n : goal.invariant-loop-n
invariant-loop-n l = (l.bytes.items ≡ replicate l._n None) × (l._n ≤ 4096)
