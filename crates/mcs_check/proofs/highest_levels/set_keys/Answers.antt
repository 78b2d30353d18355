use Rattle.std.proofs.Common.{◌<◌, ◌∙◌, ℕ, List, sym, ap, subst, arith}
use Rattle.mcs_model.specs.Boards.{key_count}
use Rattle.mcs_check.proofs.KeyLevels.{levels_are_equal-if_all_set}
use Rattle.mcs_check.proofs.highest_levels.set_keys.Goals as goal

pub nonzero_div-i : goal.nonzero_div-i
nonzero_div-i c =
    let count = c.key_count-count.ensures.count ∙ ap key_count (c.board.ensures ∙ sym c.board-2.ensures) in
    (c.columns_of-columns.ensures c.loop-i.i (subst (λ (n : ℕ). c.loop-i.i < n) count (omega arith))).some

pub nonzero_rem-i : goal.nonzero_rem-i
nonzero_rem-i c =
    let count = c.key_count-count.ensures.count ∙ ap key_count (c.board.ensures ∙ sym c.board-2.ensures) in
    (c.columns_of-columns.ensures c.loop-i.i (subst (λ (n : ℕ). c.loop-i.i < n) count (omega arith))).some

pub returns : goal.returns
returns c =
    let s = c.args.rig.now in
    let count = c.key_count-count.ensures.count ∙ ap key_count c.board.ensures in
    c.loop-i.invariant.others
    ∙ ap (λ (xs : List ℕ). record s { keys = xs })
    (levels_are_equal-if_all_set c.key_count-count.result c.loop-i.i c.args.levels.now c.loop-i.rig.keys (c.requires ∙ sym count) (omega arith) c.loop-i.invariant.set)
