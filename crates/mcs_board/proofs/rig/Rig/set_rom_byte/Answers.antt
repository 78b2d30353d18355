use Rattle.std.proofs.Common.{◌∙◌, ◌≡◌, ap, is_some, true, sym, ◌/◌}
use Rattle.mcs_model.specs.declared.board.BoardParts.{BoardParts}
use Rattle.mcs_model.specs.Bus.{BusState}
use Rattle.mcs_model.specs.Boards.{rom_masks}
use Rattle.mcs_model.specs.ChipWrites.{with_rom_byte}
use Rattle.mcs_board.specs.RigFields.{rig_parts}
use Rattle.mcs_board.proofs.LocationLemmas.{state-after_rom_byte_write, with_rom_byte-of_absent_rom}
use Rattle.mcs_board.proofs.rig.Rig.set_rom_byte.Goals as goal

pub returns-then-is_some : goal.returns-then-is_some
returns-then-is_some g c =
    let there : is_some (rom_masks c.self.inside.key_pad.board (c.args.at / 256)) ≡ true = ap (λ (b : BoardParts). is_some (rom_masks b (c.args.at / 256))) (ap (λ (t : BusState). t.board) c.self.view_is ∙ sym c.board.ensures) ∙ ap (λ n. is_some (rom_masks c.board.result.now n)) (sym (c.get.ensures.value ∙ c.page.ensures.page)) ∙ ap is_some (sym c.mask.ensures) ∙ sym c.if-is_some.ensures in
    state-after_rom_byte_write (rig_parts c.self.inside) c.args.at c.args.byte c.from.result (c.from.ensures ∙ c.get-then-is_some.ensures.value) there
    ∙ ap (λ t. with_rom_byte t c.args.at c.args.byte) c.self.view_is

pub returns-else-is_some : goal.returns-else-is_some
returns-else-is_some g c =
    with_rom_byte-of_absent_rom c.args.self.now c.args.at c.args.byte
    (ap (λ (b : BoardParts). is_some (rom_masks b (c.args.at / 256))) (sym c.board.ensures)
    ∙ ap (λ n. is_some (rom_masks c.board.result.now n)) (sym (c.get.ensures.value ∙ c.page.ensures.page)) ∙ ap is_some (sym c.mask.ensures) ∙ sym c.if-is_some.ensures)
