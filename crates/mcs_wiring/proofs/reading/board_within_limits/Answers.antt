use Rattle.std.proofs.Common.{◌≡◌, ◌∙◌, ◌||◌, Err, false, if◌then◌else◌, sym, ap}
use Rattle.std.specs.List.{filter_map}
use Rattle.toml.specs.View.{table_view}
use Rattle.mcs_wiring.specs.declared.fault.WiringFault.TheVariants.{DoubleChip}
use Rattle.mcs_wiring.specs.Wiring.{part_of, rom_in, ram_in, roms_of, rams_of, has_double, has_double_chip, parts_in}
use Rattle.mcs_model.specs.Boards.{board_fault_of}
use Rattle.mcs_wiring.specs.Flaws.{board_or_error, board_of_parts}
use Rattle.mcs_wiring.proofs.InRange.{only_line_errors}
use Rattle.mcs_wiring.proofs.reading.board_within_limits.Goals as goal

pub returns : goal.returns
returns c =
    let ms = table_view c.args.table.now in
    let roms = c.deref.ensures.0 ∙ (c.roms-roms.ensures ∙ ap (filter_map (part_of rom_in)) c.values_at.ensures) in
    let rams = c.deref-else-has_double.ensures.0 ∙ (c.rams-rams.ensures ∙ ap (filter_map (part_of ram_in)) c.values_at-2.ensures) in
    let no_rom : has_double (roms_of ms) ≡ false = ap has_double (sym roms) ∙ (sym c.has_double.ensures ∙ c.if-has_double.false) in
    let no_ram : has_double (rams_of ms) ≡ false = ap has_double (sym rams) ∙ (sym c.has_double-else-has_double.ensures ∙ c.if-has_double-2.false) in
    let no_double : has_double_chip ms ≡ false = ap (λ b. b || has_double (rams_of ms)) no_rom ∙ no_ram in
    c.board_of_parts.ensures ∙ (ap (λ b. board_or_error b (board_fault_of b)) c.parts_in.ensures ∙ (only_line_errors ms c.requires.no_bad_value
    ∙ ap (λ b. if b then Err DoubleChip else board_of_parts (parts_in ms)) (sym no_double)))
