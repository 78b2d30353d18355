use Rattle.std.proofs.Common.{◌≡◌, replicate}
use Rattle.mcs_board.proofs.roms.zeroed_program.Given as goal

abbrev pub invariant-loop : goal.invariant-loop
invariant-loop l = l.program.items ≡ replicate l.counter 0
