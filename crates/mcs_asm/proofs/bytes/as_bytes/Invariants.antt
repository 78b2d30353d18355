use Rattle.std.proofs.Common.{◌≡◌, ◌≤◌, take, length}
use Rattle.mcs_asm.proofs.bytes.as_bytes.Given as goal

abbrev pub invariant-loop-i : goal.invariant-loop-i
invariant-loop-i l = (l.bytes.items ≡ take l.i l.values) × (l.i ≤ length l.values)
