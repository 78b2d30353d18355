use Rattle.std.proofs.Common.{ap, ◌∙◌, ◌≤◌, ◌%◌, slice_index, length, arith}
use Rattle.mcs_ram4002.specs.RamBank.{BankState, main_cells_of}
use Rattle.mcs_ram4002.proofs.BankLemmas.{present_cell-in_flat_list, absent_cell-in_flat_list}
use Rattle.mcs_ram4002.proofs.PackedNibbles.{unpacked_nibbles-of_empty_list}
use Rattle.mcs_ram4002.proofs.Bank.at.Goals as goal

pub returns-then-chip-self : goal.returns-then-chip-self
returns-then-chip-self g c =
    let i = c.self.inside in
    let fits : i.chip_count ≤ length i.chips = omega (arith, c.self.invariant.0, c.self.told) in
    c.character.ensures
    ∙ present_cell-in_flat_list 64 main_cells_of i.chips i.chip_count c.from-chip.result (c.args.src % 64) c.args.src c.index-self-chip.result (omega arith) (omega arith) (omega arith) c.if-chip-self.true fits
    ∙ ap (λ (b : BankState). slice_index b.main c.args.src) c.self.view_is

pub returns-else-chip-self : goal.returns-else-chip-self
returns-else-chip-self g c =
    let i = c.self.inside in
    absent_cell-in_flat_list 64 main_cells_of i.chips i.chip_count c.from-chip.result (c.args.src % 64) c.args.src (unpacked_nibbles-of_empty_list (c.args.src % 64)) (omega arith) (omega arith) (omega arith) c.if-chip-self.false
    ∙ ap (λ (b : BankState). slice_index b.main c.args.src) c.self.view_is
