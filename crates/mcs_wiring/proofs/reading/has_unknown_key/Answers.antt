use Rattle.std.proofs.Common.{◌∙◌, sym, ap, not, ◌||◌, refl}
use Rattle.toml.specs.View.{table_view}
use Rattle.mcs_wiring.specs.Format.{is_board_key}
use Rattle.mcs_wiring.specs.Wiring.{any_section_entry, entry_has_unknown_key}
use Rattle.mcs_wiring.proofs.TomlViews.{any_key_test_in_view}
use Rattle.mcs_wiring.proofs.reading.has_unknown_key.Goals as goal

pub returns-then-has_unknown_board_key : goal.returns-then-has_unknown_board_key
returns-then-has_unknown_board_key c =
    let top = c.has_unknown_board_key.ensures ∙ any_key_test_in_view (λ key. not (is_board_key key)) c.args.table.now.entries in
    rw (← top, c.if-has_unknown_board_key.true) refl

pub returns-else-has_unknown_board_key : goal.returns-else-has_unknown_board_key
returns-else-has_unknown_board_key c =
    let top = c.has_unknown_board_key.ensures ∙ any_key_test_in_view (λ key. not (is_board_key key)) c.args.table.now.entries in
    c.has_flaw_anywhere.ensures
    ∙ ap (λ b. b || any_section_entry entry_has_unknown_key (table_view c.args.table.now)) (sym c.if-has_unknown_board_key.false ∙ top)
