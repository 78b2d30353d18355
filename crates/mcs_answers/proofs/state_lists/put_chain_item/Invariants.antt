use Rattle.std.proofs.Common.{◌≡◌, ◌+◌, ◌++◌, map, length}
use Rattle.std.specs.List.{range_with_len}
use Rattle.mcs_model.specs.Levels.{chain_bit}
use Rattle.mcs_model.specs.QueryText.{hex_digit}
use Rattle.mcs_answers.proofs.state_lists.put_chain_item.Given as goal

abbrev pub invariant-loop-i : goal.invariant-loop-i
invariant-loop-i l = record {
  text : l.answer.items ≡ l.fn.answer.items ++ map (λ i. hex_digit (chain_bit l.bench.bus l.n i)) (range_with_len 0 l.i);
  count : length l.answer.items ≡ length l.fn.answer.items + l.i;
}
