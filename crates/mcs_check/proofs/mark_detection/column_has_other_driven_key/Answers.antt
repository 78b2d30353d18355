use Rattle.std.proofs.Common.{◌≡◌, ◌&&◌, ◌∙◌, ℕ, Bool, not, false, eqb, sym, subst, arith}
use Rattle.std.specs.List.{list_any, range_with_len}
use Rattle.mcs_model.specs.declared.board.KeyMatrix.{KeyMatrix}
use Rattle.mcs_model.specs.Bus.{BusState}
use Rattle.mcs_drive.specs.declared.marks.Mark.{Mark}
use Rattle.mcs_drive.specs.Marks.{is_row_driven}
use Rattle.mcs_check.proofs.Matrices.{key_rows-fit_in_chain_bits}
use Rattle.mcs_check.proofs.Ranging.{none_passes-with_next_number, some_number_passes}
use Rattle.mcs_check.proofs.mark_detection.column_has_other_driven_key.Goals as goal

abbrev test : BusState → KeyMatrix → Mark → ℕ → ℕ → Bool
test s m mark j r = is_row_driven s m r && not (eqb r mark.row && eqb j mark.column)

pub is_other_key_driven-requires : goal.is_other_key_driven-requires
is_other_key_driven-requires c = (let fit = key_rows-fit_in_chain_bits c.args.matrix.now c.requires in omega arith)

pub loop-r-preserved : goal.loop-r-preserved
loop-r-preserved c = none_passes-with_next_number (test c.args.rig.now c.args.matrix.now c.args.mark c.args.j) c.loop-r.r c.loop-r.invariant (sym c.is_other_key_driven.ensures ∙ c.if-is_other_key_driven.false)

pub returns-then-is_other_key_driven : goal.returns-then-is_other_key_driven
returns-then-is_other_key_driven c =
    sym (some_number_passes (test c.args.rig.now c.args.matrix.now c.args.mark c.args.j) c.args.matrix.now.rows c.loop-r.r (omega arith) (sym c.is_other_key_driven.ensures ∙ c.if-is_other_key_driven.true))

pub returns : goal.returns
returns c =
    let p = test c.args.rig.now c.args.matrix.now c.args.mark c.args.j in
    sym (subst (λ (n : ℕ). list_any p (range_with_len 0 n) ≡ false) (omega arith) c.loop-r.invariant)
