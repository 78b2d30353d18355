use Rattle.std.proofs.Common.{◌∙◌, sym, ap}
use Rattle.mcs_wiring.specs.Wiring.{are_malformed_columns}
use Rattle.mcs_wiring.proofs.TomlViews.{columns_in_view}
use Rattle.mcs_wiring.proofs.parts.has_bad_columns.Goals as goal

pub returns-else-is_empty : goal.returns-else-is_empty
returns-else-is_empty c =
    c.any_names_no_line.ensures
    ∙ (columns_in_view c.values_at-columns.result.now (sym c.is_empty.ensures ∙ c.if-is_empty.false) ∙ ap are_malformed_columns c.values_at-columns.ensures)
