use Rattle.std.proofs.Common.{◌≡◌, ◌&&◌, not, false, eqb}
use Rattle.std.specs.List.{list_any, range_with_len}
use Rattle.mcs_drive.specs.Marks.{is_row_driven}
use Rattle.mcs_check.proofs.mark_detection.column_has_other_driven_key.Given as goal

abbrev pub invariant-loop-r : goal.invariant-loop-r
invariant-loop-r l = list_any (λ r. is_row_driven l.rig l.matrix r && not (eqb r l.mark.row && eqb l.j l.mark.column)) (range_with_len 0 l.r) ≡ false
