use Rattle.std.proofs.Common.{◌≡◌, ◌&&◌, ◌∙◌, ℕ, Bool, not, false, eqb, length, sym, subst, arith}
use Rattle.std.specs.List.{list_any, range_with_len}
use Rattle.mcs_model.specs.declared.board.KeyMatrix.{KeyMatrix}
use Rattle.mcs_model.specs.Bus.{BusState}
use Rattle.mcs_model.specs.Levels.{is_rom_line}
use Rattle.mcs_drive.specs.declared.marks.Mark.{Mark}
use Rattle.mcs_drive.specs.Marks.{column_line, is_row_driven}
use Rattle.mcs_check.proofs.Ranging.{none_passes-with_next_number, some_number_passes}
use Rattle.mcs_check.proofs.mark_detection.can_other_key_pull.Goals as goal

abbrev test : BusState → KeyMatrix → Mark → ℕ → ℕ → ℕ → Bool
test s m mark chip k j = is_rom_line chip k (column_line m j) && list_any (λ r. is_row_driven s m r && not (eqb r mark.row && eqb j mark.column)) (range_with_len 0 m.rows)

pub loop-j-preserved : goal.loop-j-preserved
loop-j-preserved c = none_passes-with_next_number (test c.args.rig.now c.args.matrix.now c.args.mark c.args.chip c.args.k) c.loop-j.j c.loop-j.invariant (sym c.can_other_key_of_column_pull.ensures ∙ c.if-can_other_key_of_column_pull.false)

pub returns-then-can_other_key_of_column_pull : goal.returns-then-can_other_key_of_column_pull
returns-then-can_other_key_of_column_pull c =
    sym (some_number_passes (test c.args.rig.now c.args.matrix.now c.args.mark c.args.chip c.args.k) (length c.args.matrix.now.columns.items) c.loop-j.j (omega arith) (sym c.can_other_key_of_column_pull.ensures ∙ c.if-can_other_key_of_column_pull.true))

pub returns : goal.returns
returns c =
    let p = test c.args.rig.now c.args.matrix.now c.args.mark c.args.chip c.args.k in
    sym (subst (λ (n : ℕ). list_any p (range_with_len 0 n) ≡ false) (omega arith) c.loop-j.invariant)
