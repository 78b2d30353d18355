use Rattle.mcs_check.specs.StateVectors.{IsOnBoard, setting_of}
use Rattle.mcs_check.proofs.Steps.{on-board-kept, reads-at_vector}
use Rattle.mcs_check.proofs.search_step.value_at_vector.Goals as goal

pub returns-clause-value : goal.returns-clause-value
returns-clause-value c = λ property.
    let start = c.args.replica.now in
    let m = c.reload.new.self in
    let limits = c.args.limits.now in
    let on : IsOnBoard start.1.board start.1.rom limits.keys m = on-board-kept limits.keys start m c.show_state_is_valid.ensures.registers c.show_state_is_valid.ensures.bus c.requires.keys c.requires.test c.reload.ensures.keeps in
    reads-at_vector (setting_of start limits c.args.layout.now property) c.args.vector.now m c.args.levels.now c.value_read_at.result c.requires.complete on (c.reload.ensures.loaded c.if-not-reload.false) c.value_read_at.ensures.value
