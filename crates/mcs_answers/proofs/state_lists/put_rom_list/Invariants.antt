use Rattle.std.proofs.Common.{◌≡◌, ◌+◌, ◌*◌, ◌++◌, ◌≤◌, length}
use Rattle.std.specs.List.{flat_map, range_with_len}
use Rattle.mcs_model.specs.QueryText.{rom_items}
use Rattle.mcs_answers.specs.Commas.{with_commas}
use Rattle.mcs_answers.proofs.state_lists.put_rom_list.Given as goal

abbrev pub invariant-loop-chip : goal.invariant-loop-chip
invariant-loop-chip l = record {
  text : l.answer.items ≡ l.initial.answer.items ++ flat_map (λ chip. with_commas (rom_items l.bench.bus chip)) (range_with_len 0 l.chip);
  count : length l.answer.items ≤ length l.initial.answer.items + 7 * l.chip;
}
