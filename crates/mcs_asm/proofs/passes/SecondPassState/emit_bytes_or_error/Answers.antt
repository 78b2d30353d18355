use Rattle.mcs_asm.proofs.ErrorLists.{cells_hold_bytes_if_accepted, cells_unchanged_if_bytes_rejected}
use Rattle.mcs_asm.proofs.passes.SecondPassState.emit_bytes_or_error.Goals as goal

pub returns-in-Ok-clause-error : goal.returns-in-Ok-clause-error
returns-in-Ok-clause-error c = λ pairs kept. cells_hold_bytes_if_accepted c.args.self.now.at c.args.next c.add.new.self.at pairs c.args.bytes.now c.add.new.self.cells (c.in-Ok.ensures.bytes pairs kept)

pub returns-in-Err-Refused-clause-error : goal.returns-in-Err-Refused-clause-error
returns-in-Err-Refused-clause-error c = λ pairs kept.
    cells_unchanged_if_bytes_rejected c.args.self.now.at c.args.next c.add.new.self.at pairs c.args.bytes.now c.args.self.now.cells c.add.new.self.cells c.in-Err-Refused.overlap c.in-Err-Refused.field-0 c.in-Err-Refused.field-0-is kept c.in-Err-Refused.ensures.cells_unchanged
    (c.in-Err-Refused.ensures.bytes pairs kept)
