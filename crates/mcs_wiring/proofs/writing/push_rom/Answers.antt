use Rattle.std.proofs.Common.{◌∙◌, ◌++◌, string_bytes, sym, ap}
use Rattle.mcs_wiring.specs.BoardText.{rom_lines}
use Rattle.mcs_model.specs.TextLines.{text_of}
use Rattle.mcs_wiring.proofs.PartTexts.{rom_text_from_pieces}
use Rattle.mcs_wiring.proofs.writing.push_rom.Goals as goal

pub returns : goal.returns
returns c =
    rom_text_from_pieces (string_bytes c.args.out.now) _ _ _ _ _ c.args.chip c.in-Some.masks c.mask_text-m3.ensures c.mask_text-m2.ensures c.mask_text-m1.ensures c.mask_text-m0.ensures c.in_ok-write.ensures.bytes
    ∙ ap (λ masks. string_bytes c.args.out.now ++ text_of (rom_lines c.args.chip masks)) (sym c.in-Some.is)
