use Rattle.std.proofs.Common.{◌≡◌, ◌+◌, ◌*◌, ◌++◌, ◌≤◌, length}
use Rattle.std.specs.List.{flat_map, range_with_len}
use Rattle.mcs_model.specs.declared.limits.TheConstants.{KEY_COLUMNS}
use Rattle.mcs_model.specs.QueryText.{row_items}
use Rattle.mcs_answers.specs.Commas.{with_commas}
use Rattle.mcs_answers.proofs.state_lists.put_key_rows.Given as goal

abbrev pub invariant-loop-row : goal.invariant-loop-row
invariant-loop-row l = record {
  text : l.answer.items ≡ l.fn.answer.items ++ flat_map (λ row. with_commas (row_items l.bench.bus l.columns row)) (range_with_len 0 l.row);
  count : length l.answer.items ≤ length l.fn.answer.items + 4 * KEY_COLUMNS * l.row;
}
