use Rattle.std.proofs.Common.{◌≡◌, ◌+◌, ◌*◌, ◌++◌, length}
use Rattle.std.specs.List.{flat_map, range_with_len}
use Rattle.mcs_model.specs.QueryText.{chip_lines}
use Rattle.mcs_model.specs.TextLines.{as_line}
use Rattle.mcs_answers.proofs.ram.put_ram.Given as goal

abbrev pub invariant-loop-chip : goal.invariant-loop-chip
invariant-loop-chip l = record {
  text : l.answer.items ≡ l.initial.answer.items ++ flat_map (λ chip. flat_map as_line (chip_lines l.bench.bus l.bank chip)) (range_with_len 0 l.chip);
  count : length l.answer.items ≡ length l.initial.answer.items + 122 * l.chip;
}
