use Rattle.std.proofs.Common.{ap, ◌∙◌, ◌≤◌, ◌+◌, ◌*◌, ◌%◌, slice_index, length, arith}
use Rattle.mcs_ram4002.specs.RamBank.{BankState, status_cells_of, status_cell_index}
use Rattle.mcs_ram4002.proofs.BankLemmas.{present_cell-in_flat_list, absent_cell-in_flat_list}
use Rattle.mcs_ram4002.proofs.PackedNibbles.{unpacked_nibbles-of_empty_list}
use Rattle.mcs_ram4002.proofs.Bank.status_at.Goals as goal

pub returns-then-chip-self : goal.returns-then-chip-self
returns-then-chip-self g c =
    let i = c.self.inside in
    let fits : i.chip_count ≤ length i.chips = omega (arith, c.self.invariant.0, c.self.told) in
    c.status_character.ensures
    ∙ present_cell-in_flat_list 16 status_cells_of i.chips i.chip_count c.from-chip.result (c.get-register.result % 4 * 4 + c.args.k) (status_cell_index c.args.high c.args.k) c.index-self-chip.result (omega arith) (omega arith) (omega arith) c.if-chip-self.true fits
    ∙ ap (λ (b : BankState). slice_index b.status (status_cell_index c.args.high c.args.k)) c.self.view_is

pub returns-else-chip-self : goal.returns-else-chip-self
returns-else-chip-self g c =
    let i = c.self.inside in
    absent_cell-in_flat_list 16 status_cells_of i.chips i.chip_count c.from-chip.result (c.get-register.result % 4 * 4 + c.args.k) (status_cell_index c.args.high c.args.k) (unpacked_nibbles-of_empty_list (c.get-register.result % 4 * 4 + c.args.k)) (omega arith) (omega arith) (omega arith) c.if-chip-self.false
    ∙ ap (λ (b : BankState). slice_index b.status (status_cell_index c.args.high c.args.k)) c.self.view_is
