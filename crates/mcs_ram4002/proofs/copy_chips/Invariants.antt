use Rattle.std.proofs.Common.{◌≡◌, take, length}
use Rattle.mcs_ram4002.proofs.copy_chips.Given as goal

abbrev pub invariant-loop-i : goal.invariant-loop-i
invariant-loop-i g l = record {
  len : length l.copy ≡ g.row.CHIPS;
  done : take l.i l.copy ≡ take l.i l.chips;
}
