use Rattle.std.proofs.Common.{◌≡◌, ◌++◌, ◌≤◌, drop, length, map}
use Rattle.std.specs.List.{filter_map}
use Rattle.toml.specs.View.{view}
use Rattle.mcs_wiring.specs.Wiring.{part_of, lamp_in}
use Rattle.mcs_wiring.proofs.parts.lamps.Given as goal

abbrev pub invariant-loop-value : goal.invariant-loop-value
invariant-loop-value l = record {
  so_far : l.lamps.items ++ filter_map (part_of lamp_in) (map view (drop l.value-index l.values)) ≡ filter_map (part_of lamp_in) (map view l.values);
  room : length l.lamps.items ≤ l.value-index;
}
