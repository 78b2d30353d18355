use Rattle.std.proofs.Common.{◌+◌, sym, ap, ◌∙◌, subst, List}
use Rattle.mcs_check.specs.declared.cells.StateByte.{StateByte}
use Rattle.mcs_check.proofs.LayoutFilling.{IsFilledTo, is_filled-after_cell_added, is_filled-after_cell_skipped}
use Rattle.mcs_check.proofs.cells.add_cells.Goals.{then-board_has_cell+in_ok-push, else-board_has_cell}
use Rattle.mcs_check.proofs.cells.add_cells.Goals as goal

pub loop-index-preserved : goal.loop-index-preserved
loop-index-preserved c =
    let b = c.args.board.now in
    let others = c.args.layout.now.items in
    let before = c.loop-index.layout.items in
    let i = c.loop-index.index in
    elim c.if-board_has_cell.branch [
      | then-board_has_cell+in_ok-push w ↦ is_filled-after_cell_added b c.args.list i others before c.if-board_has_cell.layout.items c.requires (ap (λ v. v.items) w.layout-is ∙ w.in_ok-push.ensures.items) c.loop-index.invariant
      | else-board_has_cell w ↦ subst (λ (cs : List StateByte). IsFilledTo b c.args.list (i + 1) others cs) (sym (ap (λ v. v.items) w.layout-is)) (is_filled-after_cell_skipped b c.args.list i others before (sym c.board_has_cell.ensures ∙ w.if-board_has_cell.false) c.loop-index.invariant)
    ]
