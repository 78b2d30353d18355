use Rattle.std.proofs.Common.{◌≡◌, ◌+◌, ◌*◌, ◌++◌, ◌≤◌, length}
use Rattle.std.specs.List.{flat_map, range_with_len}
use Rattle.mcs_model.specs.QueryText.{key_item}
use Rattle.mcs_answers.specs.Commas.{with_commas}
use Rattle.mcs_answers.proofs.state_lists.put_row_items.Given as goal

abbrev pub invariant-loop-column : goal.invariant-loop-column
invariant-loop-column l = record {
  text : l.answer.items ≡ l.fn.answer.items ++ flat_map (λ column. with_commas (key_item l.bench.bus l.row column)) (range_with_len 0 l.column);
  count : length l.answer.items ≤ length l.fn.answer.items + 4 * l.column;
}
