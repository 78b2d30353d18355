use Rattle.std.proofs.Common.{◌∙◌, sym, ap, not}
use Rattle.toml.specs.View.{view}
use Rattle.toml.proofs.Views.{view-Table}
use Rattle.mcs_wiring.specs.Format.{is_table_key}
use Rattle.mcs_wiring.specs.Wiring.{entry_has_unknown_key}
use Rattle.mcs_wiring.proofs.TomlViews.{any_key_test_in_view}
use Rattle.mcs_wiring.proofs.reading.entry_has_unknown_key.Goals as goal

pub returns-in-Table : goal.returns-in-Table
returns-in-Table c =
    c.has_unknown_table_key.ensures
    ∙ (any_key_test_in_view (λ key. not (is_table_key c.args.section key)) c.in-Table.table.entries
    ∙ sym (ap (entry_has_unknown_key c.args.section) (ap view c.in-Table.is ∙ view-Table c.in-Table.table)))
