use Rattle.std.proofs.Common.{ℕ, ◌/◌, ◌%◌, ◌<◌, ◌≡◌, length, slice_index, slice_index_or}
use Rattle.mcs_model.specs.declared.board.Line.TheVariants.{Rom}
use Rattle.mcs_model.specs.Levels.{is_rom_line}
use Rattle.mcs_keypad.specs.Keys.{IsColumnMask}
use Rattle.mcs_keypad.proofs.scanned.line_masks.Given as goal

abbrev pub invariant-loop-i : goal.invariant-loop-i
invariant-loop-i l = record {
  len : length l.bytes ≡ 64;
  lines : (n : ℕ) → n < l.i → IsColumnMask (slice_index l.bytes n) (length l.columns) (λ j. is_rom_line (n / 4) (n % 4) (slice_index_or l.columns j (Rom 0 0)));
}
