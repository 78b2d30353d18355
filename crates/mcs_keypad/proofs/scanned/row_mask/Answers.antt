use Rattle.std.proofs.Common.{◌+◌, ◌∙◌, sym, arith}
use Rattle.mcs_keypad.specs.Keys.{is_down}
use Rattle.mcs_keypad.proofs.ColumnMasks.{next_mask-if_column_passes, next_mask-if_column_fails}
use Rattle.mcs_keypad.proofs.scanned.row_mask.Goals as goal
use Rattle.mcs_keypad.proofs.scanned.row_mask.Goals.{then-is_down, else-is_down}

pub loop-j-preserved : goal.loop-j-preserved
loop-j-preserved c = elim c.if-is_down.branch [
  | then-is_down w ↦ next_mask-if_column_passes c.loop-j.byte c.if-is_down.byte c.loop-j.j (λ i. is_down c.args.down.now (c.args.from + i)) (omega arith) w.byte-is c.loop-j.invariant (sym c.is_down.ensures ∙ w.if-is_down.true)
  | else-is_down w ↦ next_mask-if_column_fails c.loop-j.byte c.if-is_down.byte c.loop-j.j (λ i. is_down c.args.down.now (c.args.from + i)) w.byte-is c.loop-j.invariant (sym c.is_down.ensures ∙ w.if-is_down.false)
]
