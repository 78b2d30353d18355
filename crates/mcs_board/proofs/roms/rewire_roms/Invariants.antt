use Rattle.std.proofs.Common.{◌≡◌, ℕ, ◌<◌, ◌≤◌, None, length, get_or}
use Rattle.mcs_model.specs.Boards.{rom_masks}
use Rattle.mcs_board.specs.Fitting.{port_after_wiring}
use Rattle.mcs_board.proofs.roms.rewire_roms.Given as goal

abbrev pub invariant-loop-i : goal.invariant-loop-i
invariant-loop-i l = record {
  len : length l.roms.items ≡ length l.fn.roms.items;
  done : (k : ℕ) → k < l.i → get_or l.roms.items k None ≡ port_after_wiring (rom_masks l.board k);
  rest : (k : ℕ) → l.i ≤ k → get_or l.roms.items k None ≡ get_or l.fn.roms.items k None;
}
