use Rattle.std.proofs.Common.{◌∙◌, sym, refl, arith}
use Rattle.mcs_bench.proofs.ChipListLemmas.{chip-list-length-if-in-range, zero-where-absent-if-valid, chip-list-filled-at-start, chip-list-filled-with-next, chip-list-filled-completely}
use Rattle.mcs_bench.proofs.chip_list.fill.Goals as goal

pub loop-i-init : goal.loop-i-init
loop-i-init c =
    chip-list-filled-at-start c.args.rig.now c.args.list c.args.numbers.now (chip-list-length-if-in-range c.args.rig.now c.show_state_is_valid.ensures.in_range c.args.list ∙ sym c.requires.fit.has_count)

pub loop-i-preserved : goal.loop-i-preserved
loop-i-preserved c =
    let i = c.loop-i.i in
    chip-list-filled-with-next c.args.rig.now c.loop-i.rig c.set.new.rig c.args.list c.args.numbers.now i _ (omega arith) refl
    (λ e. zero-where-absent-if-valid c.args.rig.now c.show_state_is_valid.ensures.absent c.args.list i (let r = c.requires in omega arith) e ∙ sym (c.requires.absent i (let r = c.requires in omega arith) e))
    c.loop-i.invariant c.set.ensures

pub returns : goal.returns
returns c = chip-list-filled-completely c.args.rig.now c.loop-i.rig c.args.list c.args.numbers.now c.loop-i.i (omega arith) c.loop-i.invariant
