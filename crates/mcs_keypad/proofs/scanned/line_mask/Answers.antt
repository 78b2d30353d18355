use Rattle.std.proofs.Common.{◌∙◌, sym, arith, slice_index_or}
use Rattle.mcs_model.specs.declared.board.Line.TheVariants.{Rom}
use Rattle.mcs_model.specs.Levels.{is_rom_line}
use Rattle.mcs_keypad.proofs.ColumnMasks.{next_mask-if_column_passes, next_mask-if_column_fails}
use Rattle.mcs_keypad.proofs.scanned.line_mask.Goals as goal
use Rattle.mcs_keypad.proofs.scanned.line_mask.Goals.{then-matches_rom_line, else-matches_rom_line}

pub loop-j-preserved : goal.loop-j-preserved
loop-j-preserved c = elim c.if-matches_rom_line.branch [
  | then-matches_rom_line w ↦ next_mask-if_column_passes c.loop-j.byte c.if-matches_rom_line.byte c.loop-j.j (λ i. is_rom_line c.args.chip c.args.k (slice_index_or c.args.columns.now i (Rom 0 0))) (omega arith) w.byte-is c.loop-j.invariant (sym c.matches_rom_line.ensures ∙ w.if-matches_rom_line.true)
  | else-matches_rom_line w ↦ next_mask-if_column_fails c.loop-j.byte c.if-matches_rom_line.byte c.loop-j.j (λ i. is_rom_line c.args.chip c.args.k (slice_index_or c.args.columns.now i (Rom 0 0))) w.byte-is c.loop-j.invariant (sym c.matches_rom_line.ensures ∙ w.if-matches_rom_line.false)
]
