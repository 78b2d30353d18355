use Rattle.std.proofs.Common.{◌≡◌, ℕ, ◌/◌, ◌<◌, ◌≤◌, is_some, length, get_or, if◌then◌else◌}
use Rattle.mcs_model.specs.Boards.{rom_masks}
use Rattle.mcs_board.proofs.roms.clear_absent_roms.Given as goal

abbrev pub invariant-loop-at : goal.invariant-loop-at
invariant-loop-at l = record {
  len : length l.program.items ≡ length l.fn.program.items;
  done : (k : ℕ) → k < l.at → get_or l.program.items k 0 ≡ (if is_some (rom_masks l.board (k / 256)) then get_or l.fn.program.items k 0 else 0);
  rest : (k : ℕ) → l.at ≤ k → get_or l.program.items k 0 ≡ get_or l.fn.program.items k 0;
}
