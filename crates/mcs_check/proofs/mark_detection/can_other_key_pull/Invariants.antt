use Rattle.std.proofs.Common.{◌≡◌, ◌&&◌, not, false, eqb}
use Rattle.std.specs.List.{list_any, range_with_len}
use Rattle.mcs_model.specs.Levels.{is_rom_line}
use Rattle.mcs_drive.specs.Marks.{column_line, is_row_driven}
use Rattle.mcs_check.proofs.mark_detection.can_other_key_pull.Given as goal

abbrev pub invariant-loop-j : goal.invariant-loop-j
invariant-loop-j l =
    list_any (λ j. is_rom_line l.chip l.k (column_line l.matrix j)
    && list_any (λ r. is_row_driven l.rig l.matrix r && not (eqb r l.mark.row && eqb j l.mark.column)) (range_with_len 0 l.matrix.rows))
    (range_with_len 0 l.j) ≡ false
