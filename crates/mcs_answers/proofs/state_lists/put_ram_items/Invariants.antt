use Rattle.std.proofs.Common.{◌≡◌, ◌+◌, ◌*◌, ◌++◌, length}
use Rattle.std.specs.List.{flat_map, range_with_len}
use Rattle.mcs_answers.specs.PortPieces.{ram_item}
use Rattle.mcs_answers.specs.Commas.{with_comma}
use Rattle.mcs_answers.proofs.state_lists.put_ram_items.Given as goal

abbrev pub invariant-loop-chip : goal.invariant-loop-chip
invariant-loop-chip l = record {
  text : l.answer.items ≡ l.fn.answer.items ++ flat_map (λ chip. with_comma (ram_item l.bench.bus l.bank chip)) (range_with_len 0 l.chip);
  count : length l.answer.items ≡ length l.fn.answer.items + 6 * l.chip;
}
