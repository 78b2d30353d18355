use Rattle.std.proofs.Common.{◌∙◌, ◌<◌, List, ℕ, sym, ap, subst, arith}
use Rattle.mcs_model.specs.declared.board.BoardParts.{BoardParts}
use Rattle.mcs_model.specs.Boards.{key_count}
use Rattle.mcs_bench.proofs.Filling.{filled-list-is-goal}
use Rattle.mcs_bench.proofs.restoring.fill_keys.Goals as goal

pub nonzero_div-i : goal.nonzero_div-i
nonzero_div-i c = (c.key_column_count-columns.ensures c.loop-i.i (subst (λ (b : BoardParts). c.loop-i.i < key_count b) (sym c.board.ensures) (let r = c.requires.fit.has_count in omega arith))).some

pub nonzero_rem-i : goal.nonzero_rem-i
nonzero_rem-i c = (c.key_column_count-columns.ensures c.loop-i.i (subst (λ (b : BoardParts). c.loop-i.i < key_count b) (sym c.board.ensures) (let r = c.requires.fit.has_count in omega arith))).some

pub returns : goal.returns
returns c =
    let s = c.args.rig.now in
    c.loop-i.invariant.others ∙ ap (λ (xs : List ℕ). record s { keys = xs }) (filled-list-is-goal s.keys c.args.keys.now c.loop-i.rig.keys c.loop-i.i (omega arith) c.loop-i.invariant.filled)
