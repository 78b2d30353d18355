use Rattle.std.proofs.Common.{◌≡◌, ◌++◌, ◌≤◌, drop, length, map}
use Rattle.std.specs.List.{filter_map}
use Rattle.toml.specs.View.{view}
use Rattle.mcs_wiring.specs.Wiring.{part_of, rom_in}
use Rattle.mcs_wiring.proofs.parts.roms.Given as goal

abbrev pub invariant-loop-value : goal.invariant-loop-value
invariant-loop-value l = record {
  so_far : l.roms.items ++ filter_map (part_of rom_in) (map view (drop l.value-index l.values)) ≡ filter_map (part_of rom_in) (map view l.values);
  room : length l.roms.items ≤ l.value-index;
}
