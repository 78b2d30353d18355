use Rattle.std.proofs.Common.{◌≡◌, ◌++◌, ◌≤◌, drop, length, map}
use Rattle.std.specs.List.{filter_map}
use Rattle.toml.specs.View.{view}
use Rattle.mcs_wiring.specs.Wiring.{part_of, chain_in}
use Rattle.mcs_wiring.proofs.parts.chains.Given as goal

abbrev pub invariant-loop-value : goal.invariant-loop-value
invariant-loop-value l = record {
  so_far : l.chains.items ++ filter_map (part_of chain_in) (map view (drop l.value-index l.values)) ≡ filter_map (part_of chain_in) (map view l.values);
  room : length l.chains.items ≤ l.value-index;
}
