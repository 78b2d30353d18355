use Rattle.std.proofs.Common.{◌≡◌, ◌+◌, ◌*◌, ◌++◌, length, take}
use Rattle.std.specs.List.{flat_map}
use Rattle.mcs_model.specs.QueryText.{address_text}
use Rattle.mcs_answers.specs.Commas.{with_comma}
use Rattle.mcs_answers.proofs.state_lists.put_address_items.Given as goal

abbrev pub invariant-loop-at : goal.invariant-loop-at
invariant-loop-at l = record {
  text : l.answer.items ≡ l.fn.answer.items ++ flat_map (λ at. with_comma (address_text at)) (take l.at-index l.list);
  count : length l.answer.items ≡ length l.fn.answer.items + 4 * l.at-index;
}
