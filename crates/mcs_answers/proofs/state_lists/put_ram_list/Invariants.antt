use Rattle.std.proofs.Common.{◌≡◌, ◌+◌, ◌*◌, ◌++◌, ◌≤◌, length}
use Rattle.std.specs.List.{flat_map, range_with_len}
use Rattle.mcs_model.specs.QueryText.{ram_items}
use Rattle.mcs_answers.specs.Commas.{with_commas}
use Rattle.mcs_answers.proofs.state_lists.put_ram_list.Given as goal

abbrev pub invariant-loop-bank : goal.invariant-loop-bank
invariant-loop-bank l = record {
  text : l.answer.items ≡ l.initial.answer.items ++ flat_map (λ bank. with_commas (ram_items l.bench.bus bank)) (range_with_len 0 l.bank);
  count : length l.answer.items ≤ length l.initial.answer.items + 24 * l.bank;
}
