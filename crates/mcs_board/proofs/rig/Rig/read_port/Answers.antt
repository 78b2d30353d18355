use Rattle.std.proofs.Common.{◌∙◌, sym, ap}
use Rattle.mcs_nibble.specs.Bits.{bit_of}
use Rattle.mcs_nibble.specs.Ports.{read_lines}
use Rattle.mcs_model.specs.declared.board.BoardParts.{BoardParts}
use Rattle.mcs_model.specs.Boards.{rom_masks}
use Rattle.mcs_model.specs.Levels.{is_pulled, bit_when}
use Rattle.mcs_board.proofs.KeyLemmas.{read_lines-of_packed_levels, port_at-of_present_rom, port_at-of_absent_rom, bit_when-below_2}
use Rattle.mcs_board.proofs.rig.Rig.read_port.Goals as goal

pub returns-in-Some : goal.returns-in-Some
returns-in-Some g c =
    let s = c.args.self.now in
    let chip = c.args.chip in
    let mask = c.in-Some.mask in
    let is = sym (ap (λ (b : BoardParts). rom_masks b chip) c.board.ensures) ∙ ap (rom_masks c.board.result.now) (sym c.get.ensures.value) ∙ sym c.mask.ensures ∙ c.in-Some.is in
    c.read_port_of.ensures
    ∙ ap (λ n. read_lines (bit_of n) mask) c.pulled_lines.ensures
    ∙ read_lines-of_packed_levels (λ k. bit_when (is_pulled s chip k)) mask (λ j. bit_when-below_2 (is_pulled s chip j))
    ∙ port_at-of_present_rom s chip mask is

pub returns-in-None : goal.returns-in-None
returns-in-None g c =
    let s = c.args.self.now in
    let chip = c.args.chip in
    port_at-of_absent_rom s chip (sym (ap (λ (b : BoardParts). rom_masks b chip) c.board.ensures) ∙ ap (rom_masks c.board.result.now) (sym c.get.ensures.value) ∙ sym c.mask.ensures ∙ c.in-None.is)
