use Rattle.std.proofs.Common.{◌≡◌, ◌++◌, ◌≤◌, drop, length, map}
use Rattle.std.specs.List.{filter_map}
use Rattle.toml.specs.View.{view}
use Rattle.mcs_wiring.specs.Wiring.{line_in}
use Rattle.mcs_wiring.proofs.parts.columns.Given as goal

abbrev pub invariant-loop-value : goal.invariant-loop-value
invariant-loop-value l = record {
  so_far : l.columns.items ++ filter_map line_in (map view (drop l.value-index l.values)) ≡ filter_map line_in (map view l.values);
  room : length l.columns.items ≤ l.value-index;
}
