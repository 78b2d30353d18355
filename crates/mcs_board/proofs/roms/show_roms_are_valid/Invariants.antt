use Rattle.std.proofs.Common.{ℕ, ◌<◌, get_or, None}
use Rattle.std.specs.Prelude.{IfSome}
use Rattle.mcs_rom4001.specs.Roms.{IsValidPort}
use Rattle.mcs_board.proofs.roms.show_roms_are_valid.Given as goal

abbrev pub invariant-loop-i : goal.invariant-loop-i
invariant-loop-i l = (k : ℕ) → k < l.i → IfSome (get_or l.roms.items k None) IsValidPort
