use Rattle.std.proofs.Common.{ap}
use Rattle.mcs_wiring.specs.BoardText.{bank_lines}
use Rattle.mcs_model.specs.TextLines.{text_of}
use Rattle.mcs_wiring.specs.Flaws.{ram_text}
use Rattle.mcs_wiring.proofs.PartTexts.{append_text_for_next_number}
use Rattle.mcs_wiring.proofs.writing.push_rams.Goals as goal

pub loop-bank-preserved : goal.loop-bank-preserved
loop-bank-preserved c =
    append_text_for_next_number (ram_text c.args.board.now) c.loop-bank.bank _ _ _ _ c.loop-bank.invariant c.in_ok-push_ram.ensures
    (ap (λ chips. text_of (bank_lines c.loop-bank.bank chips)) c.bank_chips.ensures)
