use Rattle.std.proofs.Common.{◌≡◌, ◌∙◌, Some, map, sym, ap}
use Rattle.toml.specs.View.{view}
use Rattle.toml.proofs.Views.{view-Array}
use Rattle.mcs_wiring.specs.Wiring.{array_values}
use Rattle.mcs_wiring.proofs.TomlViews.{values_in_view}
use Rattle.mcs_wiring.proofs.values.values_at.Goals as goal

pub returns-in-Some-Array : goal.returns-in-Some-Array
returns-in-Some-Array c =
    let values = c.in-Some-Array.values in
    let equal_values : c.deref.result.now ≡ values.items = cc (c.deref.ensures.value, c.in-Some-Array.values-is) in
    let seen = ap view c.in-Some-Array.field-0-is ∙ view-Array values in
    ap (map view) equal_values ∙ (values_in_view values.items ∙ ap array_values (ap Some (sym seen) ∙ c.in-Some-Array.ensures))
