use Rattle.std.proofs.Common.{◌≡◌, ℕ, ◌<◌, ◌≤◌, None}
use Rattle.mcs_model.specs.Boards.{rom_masks}
use Rattle.mcs_board.proofs.roms.roms_fit.Given as goal

abbrev pub invariant-loop-i : goal.invariant-loop-i
invariant-loop-i l = (k : ℕ) → l.sockets ≤ k → k < l.i → rom_masks l.board k ≡ None
