use Rattle.std.proofs.Common.{ap}
use Rattle.mcs_wiring.specs.BoardText.{rom_lines}
use Rattle.mcs_model.specs.TextLines.{text_of}
use Rattle.mcs_wiring.specs.Flaws.{rom_text}
use Rattle.mcs_wiring.proofs.PartTexts.{append_text_for_next_number}
use Rattle.mcs_wiring.proofs.writing.push_roms.Goals as goal

pub loop-chip-preserved : goal.loop-chip-preserved
loop-chip-preserved c =
    append_text_for_next_number (rom_text c.args.board.now) c.loop-chip.chip _ _ _ _ c.loop-chip.invariant c.in_ok-push_rom.ensures
    (ap (λ masks. text_of (rom_lines c.loop-chip.chip masks)) c.mask.ensures)
