use Rattle.std.proofs.Common.{◌≡◌, ◌+◌, ◌*◌, ◌++◌, length}
use Rattle.std.specs.List.{flat_map, range_with_len}
use Rattle.mcs_model.specs.QueryText.{register_line}
use Rattle.mcs_model.specs.TextLines.{as_line}
use Rattle.mcs_answers.proofs.ram.put_chip.Given as goal

abbrev pub invariant-loop-r : goal.invariant-loop-r
invariant-loop-r l = record {
  text : l.answer.items ≡ l.fn.answer.items ++ flat_map (λ r. as_line (register_line l.bench.bus l.bank l.chip r)) (range_with_len 0 l.r);
  count : length l.answer.items ≡ length l.fn.answer.items + 28 * l.r;
}
