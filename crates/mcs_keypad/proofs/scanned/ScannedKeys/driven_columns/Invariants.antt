use Rattle.std.proofs.Common.{◌≡◌, ◌/◌, ◌^◌, length}
use Rattle.std.specs.List.{list_any, range_with_len}
use Rattle.mcs_model.specs.Levels.{row_drives_column}
use Rattle.mcs_keypad.specs.Keys.{IsColumnMask}
use Rattle.mcs_keypad.proofs.scanned.ScannedKeys.driven_columns.Given as goal

abbrev pub invariant-loop-r : goal.invariant-loop-r
invariant-loop-r g l = record {
  remaining_levels : l.remaining_levels ≡ l.levels / 2 ^ l.r;
  byte : IsColumnMask l.driven_columns (length l.matrix.columns.items) (λ j. list_any (row_drives_column l.bits l.self.down l.matrix j) (range_with_len 0 l.r));
}
