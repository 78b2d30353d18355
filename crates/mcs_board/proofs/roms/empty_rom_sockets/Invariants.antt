use Rattle.std.proofs.Common.{◌≡◌, replicate, None}
use Rattle.mcs_board.proofs.roms.empty_rom_sockets.Given as goal

abbrev pub invariant-loop : goal.invariant-loop
invariant-loop l = l.roms.items ≡ replicate l.counter None
