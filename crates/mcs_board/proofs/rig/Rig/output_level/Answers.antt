use Rattle.std.proofs.Common.{sym, ap, ◌∙◌}
use Rattle.mcs_nibble.specs.Bits.{bit_of}
use Rattle.mcs_model.specs.Boards.{is_output_line}
use Rattle.mcs_model.specs.Levels.{level}
use Rattle.mcs_board.proofs.ClockLemmas.{level-of_rom_output_line, level-of_ram_line}
use Rattle.mcs_board.proofs.rig.Rig.output_level.Goals as goal

pub returns-in-Rom : goal.returns-in-Rom
returns-in-Rom g c =
    let s = c.args.self.now in
    let r = c.in-Rom in
    c.bit.ensures ∙ ap (λ n. bit_of n r.k) c.rom_latch.ensures ∙ level-of_rom_output_line s r.chip r.k (ap (is_output_line s.board) (sym r.is) ∙ c.requires) ∙ ap (level s) (sym r.is)

pub returns-in-Ram : goal.returns-in-Ram
returns-in-Ram g c =
    let s = c.args.self.now in
    let r = c.in-Ram in
    c.bit-in-Ram.ensures ∙ ap (λ n. bit_of n r.k) c.ram_latch.ensures ∙ level-of_ram_line s r.bank r.chip r.k ∙ ap (level s) (sym r.is)
