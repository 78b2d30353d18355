use Rattle.std.proofs.Common.{◌∙◌, sym, arith}
use Rattle.std.proofs.lemmas.List.{take_all}
use Rattle.mcs_ram4002.proofs.copy_chips.Goals as goal

pub returns : goal.returns
returns g c =
    let len = c.loop-i.invariant.len in
    let valid_chips = c.type_inv.chips in
    let end = c.loop-i-test.false in
    sym (take_all c.loop-i.i c.loop-i.copy (omega arith)) ∙ c.loop-i.invariant.done ∙ take_all c.loop-i.i c.args.chips.now (omega arith)
