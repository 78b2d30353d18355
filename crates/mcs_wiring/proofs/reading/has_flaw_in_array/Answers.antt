use Rattle.std.proofs.Common.{◌∙◌, ap}
use Rattle.std.specs.List.{list_any}
use Rattle.toml.specs.View.{table_view}
use Rattle.mcs_wiring.specs.Flaws.{has_flaw}
use Rattle.mcs_wiring.specs.Wiring.{values_at}
use Rattle.mcs_wiring.proofs.TomlViews.{any_value_in_view}
use Rattle.mcs_wiring.proofs.reading.has_flaw_in_array.Goals as goal

pub returns : goal.returns
returns c =
    let p = has_flaw c.args.flaw c.args.section in
    c.any_has_flaw.ensures
    ∙ (any_value_in_view p c.values_at.result.now
    ∙ ap (list_any p) (c.values_at.ensures ∙ ap (λ key. values_at key (table_view c.args.table.now)) c.key.ensures))
