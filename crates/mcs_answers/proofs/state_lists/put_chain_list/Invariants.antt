use Rattle.std.proofs.Common.{◌≡◌, ◌+◌, ◌*◌, ◌++◌, ◌≤◌, length}
use Rattle.std.specs.List.{flat_map, range_with_len}
use Rattle.mcs_model.specs.QueryText.{chain_item}
use Rattle.mcs_answers.specs.Commas.{with_comma}
use Rattle.mcs_answers.specs.declared.size.TheConstants.{CHAIN_ITEM_BYTES}
use Rattle.mcs_answers.proofs.state_lists.put_chain_list.Given as goal

abbrev pub invariant-loop-n : goal.invariant-loop-n
invariant-loop-n l = record {
  text : l.answer.items ≡ l.initial.answer.items ++ flat_map (λ n. with_comma (chain_item l.bench.bus n)) (range_with_len 0 l.n);
  count : length l.answer.items ≤ length l.initial.answer.items + CHAIN_ITEM_BYTES * l.n;
}
