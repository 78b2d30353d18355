use Rattle.std.proofs.Common.{◌+◌}
use Rattle.mcs_keypad.specs.Keys.{IsColumnMask, is_down}
use Rattle.mcs_keypad.proofs.scanned.row_mask.Given as goal

abbrev pub invariant-loop-j : goal.invariant-loop-j
invariant-loop-j l = IsColumnMask l.byte l.j (λ i. is_down l.down (l.from + i))
