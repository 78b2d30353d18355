use Rattle.mcs_check.specs.StateVectors.{IsOnBoard, setting_of}
use Rattle.mcs_check.proofs.Steps.{covers-if_all_16_values, covers-if_all_readable_values, on-board-kept}
use Rattle.mcs_check.proofs.search_step.list_readable_values.Goals as goal

pub returns-then-vector-layout-clause-covers : goal.returns-then-vector-layout-clause-covers
returns-then-vector-layout-clause-covers c = λ property.
    covers-if_all_16_values (setting_of c.args.replica.now c.args.limits.now c.args.layout.now property) c.args.vector.now c.push_all_nibbles.new.into.items c.in_ok-push_all_nibbles.ensures

pub returns-clause-covers : goal.returns-clause-covers
returns-clause-covers c = λ property.
    let start = c.args.replica.now in
    let m = c.reload.new.self in
    let on : IsOnBoard start.1.board start.1.rom c.args.limits.now.keys m = on-board-kept c.args.limits.now.keys start m c.show_state_is_valid.ensures.registers c.show_state_is_valid.ensures.bus c.requires.keys c.requires.test c.reload.ensures.keeps in
    covers-if_all_readable_values (setting_of start c.args.limits.now c.args.layout.now property) c.args.vector.now c.push_readable_values.new.into.items m c.requires.complete on (c.reload.ensures.loaded c.if-not-reload.false) c.in_ok-push_readable_values.ensures
