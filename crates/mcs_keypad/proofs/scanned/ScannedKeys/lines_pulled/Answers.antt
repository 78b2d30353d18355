use Rattle.std.proofs.Common.{◌≡◌, ◌+◌, ◌*◌, ◌/◌, ◌%◌, ◌<◌, ◌∙◌, ℕ, ap, sym, subst, arith, length, slice_index}
use Rattle.std.specs.List.{list_any, range_with_len}
use Rattle.mcs_model.specs.Levels.{row_drives_column}
use Rattle.mcs_keypad.specs.Keys.{ScannedState, IsColumnMask, column_is_connected_to}
use Rattle.mcs_keypad.proofs.DrivenColumns.{mask-of_rom_line, nibble-equal}
use Rattle.mcs_keypad.proofs.scanned.ScannedKeys.lines_pulled.Goals as goal

pub returns : goal.returns
returns g c =
    let s = c.args.self.now in
    let m = c.args.matrix.now in
    let bits = c.args.bits.now in
    let chip = c.args.chip in
    let n = length m.columns.items in
    let lines = c.self.inside.lines in
    let base : c.from-at.result ≡ chip = c.from-at.ensures ∙ c.get.ensures.value in
    let at = 4 * c.from-at.result in
    let place : 4 * c.from-at.result ≡ 4 * chip = ap (λ k. 4 * k) base in
    let small : chip < 16 = omega arith in
    let driven_columns = λ (j : ℕ). list_any (row_drives_column bits s.down m j) (range_with_len 0 m.rows) in
    let byte = λ (i k : ℕ) (e : i ≡ 4 * chip + k) (l : k < 4). mask-of_rom_line m (slice_index lines i) chip k i e l (subst (λ (t : ScannedState). IsColumnMask (slice_index t.line_masks i) n (column_is_connected_to m (i / 4) (i % 4))) (sym c.self.view_is) (c.requires.scanned.lines i (omega arith))) in
    c.of_bits.ensures.value
    ∙ nibble-equal c.have_common_column.result c.have_common_column-2.result c.have_common_column-3.result c.have_common_column-4.result _ _ _ _
    (c.have_common_column.ensures n (column_is_connected_to m chip 0) driven_columns (byte at 0 (omega arith) (omega arith)) c.driven_columns-driven_columns.ensures)
    (c.have_common_column-2.ensures n (column_is_connected_to m chip 1) driven_columns (byte (at + 1) 1 (omega arith) (omega arith)) c.driven_columns-driven_columns.ensures)
    (c.have_common_column-3.ensures n (column_is_connected_to m chip 2) driven_columns (byte (at + 2) 2 (omega arith) (omega arith)) c.driven_columns-driven_columns.ensures)
    (c.have_common_column-4.ensures n (column_is_connected_to m chip 3) driven_columns (byte (at + 3) 3 (omega arith) (omega arith)) c.driven_columns-driven_columns.ensures)
