use Rattle.std.proofs.Common.{ℕ, ◌<◌, get_or}
use Rattle.mcs_ram4002.specs.RamBank.{IsValidChip, absent_chip}
use Rattle.mcs_ram4002.proofs.show_chips_are_valid.Given as goal

abbrev pub invariant-loop-i : goal.invariant-loop-i
invariant-loop-i l = (k : ℕ) → k < l.i → IsValidChip (get_or l.chips k absent_chip)
