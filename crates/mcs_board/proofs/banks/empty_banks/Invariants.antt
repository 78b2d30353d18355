use Rattle.std.proofs.Common.{◌≡◌, replicate}
use Rattle.mcs_ram4002.specs.RamBank.{blank_bank}
use Rattle.mcs_board.proofs.banks.empty_banks.Given as goal

abbrev pub invariant-loop : goal.invariant-loop
invariant-loop l = l.banks.items ≡ replicate l.counter (blank_bank 0)
