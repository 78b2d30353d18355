use Rattle.std.proofs.Common.{◌≡◌, ℕ, ◌+◌, ◌-◌, ◌*◌, ◌/◌, ◌^◌, ◌<◌, ◌≤◌, ◌∙◌, bit_and, sym, ap, subst, arith, length, slice_index}
use Rattle.std.proofs.lemmas.Nat.Bits.{shr_and_one}
use Rattle.std.specs.List.{list_any, range_with_len}
use Rattle.mcs_nibble.specs.Bits.{bit_of}
use Rattle.mcs_model.specs.Levels.{row_drives_column}
use Rattle.mcs_keypad.specs.Keys.{ScannedState, IsColumnMask, is_down}
use Rattle.mcs_keypad.proofs.DrivenColumns.{driven_mask-after_driving_row, driven_mask-after_idle_row, driven_mask-after_idle_rows, bits-zero_above_shift, shifted_right-halved}
use Rattle.mcs_keypad.proofs.scanned.ScannedKeys.driven_columns.Goals as goal
use Rattle.mcs_keypad.proofs.scanned.ScannedKeys.driven_columns.Goals.{then-remaining_levels-eq1, else-remaining_levels-eq1}

pub loop-r-preserved : goal.loop-r-preserved
loop-r-preserved g c =
    let s = c.args.self.now in
    let m = c.args.matrix.now in
    let bits = c.args.bits.now in
    let r = c.loop-r.r in
    let row = slice_index c.self.inside.rows r in
    let first : c.from.result ≡ m.first = c.from.ensures in
    let here : bit_of c.ten_bits_from-levels.result r ≡ slice_index bits (m.first + r) = c.ten_bits_from-levels.ensures.bits r (omega arith) ∙ ap (λ n. slice_index bits (n + r)) first in
    let level = ap (λ n. bit_and n 1) c.loop-r.invariant.remaining_levels ∙ shr_and_one c.ten_bits_from-levels.result r ∙ here in
    let byte = subst (λ (k : ScannedState). IsColumnMask (slice_index k.row_masks r) (length m.columns.items) (λ j. is_down s.down (r * length m.columns.items + j))) (sym c.self.view_is) (c.requires.scanned.rows r (omega arith)) in
    let halved : c.loop-r.remaining_levels / 2 ≡ c.ten_bits_from-levels.result / 2 ^ (r + 1) = ap (λ n. n / 2) c.loop-r.invariant.remaining_levels ∙ shifted_right-halved c.ten_bits_from-levels.result r in
    record {
      remaining_levels = halved;
      byte = elim c.if-remaining_levels-eq1.branch [
        | then-remaining_levels-eq1 w ↦ driven_mask-after_driving_row bits s.down m c.loop-r.driven_columns c.if-remaining_levels-eq1.driven_columns row r c.loop-r.invariant.byte byte (sym level ∙ w.if-remaining_levels-eq1.true) w.driven_columns-is
        | else-remaining_levels-eq1 w ↦ driven_mask-after_idle_row bits s.down m c.loop-r.driven_columns c.if-remaining_levels-eq1.driven_columns r c.loop-r.invariant.byte (λ e. w.if-remaining_levels-eq1.false (level ∙ e)) w.driven_columns-is
      ];
    }

pub returns-then-remaining_levels-eq0 : goal.returns-then-remaining_levels-eq0
returns-then-remaining_levels-eq0 g c =
    let s = c.args.self.now in
    let m = c.args.matrix.now in
    let bits = c.args.bits.now in
    let r = c.loop-r.r in
    let few = c.requires.scanned.few in
    let low = λ (k : ℕ) (l : r ≤ k) (h : k < r + (m.rows - r)). sym (c.ten_bits_from-levels.ensures.bits k (omega arith) ∙ ap (λ n. slice_index bits (n + k)) c.from.ensures) ∙ bits-zero_above_shift c.ten_bits_from-levels.result r k (sym c.loop-r.invariant.remaining_levels ∙ c.if-remaining_levels-eq0.true) l in
    let all : r + (m.rows - r) ≡ m.rows = omega arith in
    subst (λ n. IsColumnMask c.loop-r.driven_columns (length m.columns.items) (λ j. list_any (row_drives_column bits s.down m j) (range_with_len 0 n))) all (driven_mask-after_idle_rows bits s.down m c.loop-r.driven_columns r (m.rows - r) c.loop-r.invariant.byte low)
