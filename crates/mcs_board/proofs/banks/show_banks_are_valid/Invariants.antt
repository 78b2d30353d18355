use Rattle.std.proofs.Common.{ℕ, ◌<◌, get_or}
use Rattle.mcs_ram4002.specs.RamBank.{IsValidBank}
use Rattle.mcs_board.specs.RigState.{absent_bank}
use Rattle.mcs_board.proofs.banks.show_banks_are_valid.Given as goal

abbrev pub invariant-loop-i : goal.invariant-loop-i
invariant-loop-i l = (k : ℕ) → k < l.i → IsValidBank (get_or l.banks.items k absent_bank)
