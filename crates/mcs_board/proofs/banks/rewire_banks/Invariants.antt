use Rattle.std.proofs.Common.{◌≡◌, ℕ, ◌<◌, length, get_or}
use Rattle.mcs_ram4002.specs.RamBank.{blank_bank}
use Rattle.mcs_board.specs.RigState.{absent_bank}
use Rattle.mcs_board.proofs.banks.rewire_banks.Given as goal

abbrev pub invariant-loop-i : goal.invariant-loop-i
invariant-loop-i l = record {
  len : length l.banks.items ≡ length l.fn.banks.items;
  done : (k : ℕ) → k < l.i → get_or l.banks.items k absent_bank ≡ blank_bank (get_or l.board.banks k 0);
}
