use Rattle.std.proofs.Common.{ℕ, ◌+◌, ◌*◌, ◌<◌, ◌≡◌, length, slice_index}
use Rattle.mcs_keypad.specs.Keys.{IsColumnMask, is_down}
use Rattle.mcs_keypad.proofs.scanned.row_masks.Given as goal

abbrev pub invariant-loop-r : goal.invariant-loop-r
invariant-loop-r l = record {
  len : length l.bytes ≡ 10;
  rows : (k : ℕ) → k < l.r → IsColumnMask (slice_index l.bytes k) l.columns (λ j. is_down l.down (k * l.columns + j));
}
