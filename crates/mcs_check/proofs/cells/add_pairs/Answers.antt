use Rattle.std.proofs.Common.{◌+◌, ◌*◌, sym, ap, ◌∙◌, subst, List}
use Rattle.mcs_check.specs.declared.cells.StateByte.{StateByte}
use Rattle.mcs_check.proofs.LayoutFilling.{IsFilledTo, is_filled-after_pair_added, is_filled-after_pair_skipped}
use Rattle.mcs_check.proofs.cells.add_pairs.Goals.{then-board_has_pair+in_ok-push, else-board_has_pair}
use Rattle.mcs_check.proofs.cells.add_pairs.Goals as goal

pub loop-pair-preserved : goal.loop-pair-preserved
loop-pair-preserved c =
    let b = c.args.board.now in
    let others = c.args.layout.now.items in
    let before = c.loop-pair.layout.items in
    let h = c.loop-pair.pair in
    elim c.if-board_has_pair.branch [
      | then-board_has_pair+in_ok-push w ↦ is_filled-after_pair_added b c.args.list h others before c.if-board_has_pair.layout.items c.requires (ap (λ v. v.items) w.layout-is ∙ w.in_ok-push.ensures.items) c.loop-pair.invariant
      | else-board_has_pair w ↦ subst (λ (cs : List StateByte). IsFilledTo b c.args.list (2 * (h + 1)) others cs) (sym (ap (λ v. v.items) w.layout-is)) (is_filled-after_pair_skipped b c.args.list h others before (sym c.board_has_pair.ensures ∙ w.if-board_has_pair.false) c.loop-pair.invariant)
    ]
