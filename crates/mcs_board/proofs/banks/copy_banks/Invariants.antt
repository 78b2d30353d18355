use Rattle.std.proofs.Common.{◌≡◌, take}
use Rattle.mcs_board.proofs.banks.copy_banks.Given as goal

abbrev pub invariant-loop-bank : goal.invariant-loop-bank
invariant-loop-bank l = l.copy.items ≡ take l.bank-index l.banks.items
