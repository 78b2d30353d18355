use Rattle.std.proofs.Common.{◌≡◌, take}
use Rattle.mcs_board.proofs.roms.copy_roms.Given as goal

abbrev pub invariant-loop-rom : goal.invariant-loop-rom
invariant-loop-rom l = l.copy.items ≡ take l.rom-index l.roms.items
