use Rattle.std.proofs.Common.{◌≡◌, ◌+◌, ◌*◌, ◌++◌, codes, length, take}
use Rattle.std.specs.List.{flat_map}
use Rattle.mcs_model.specs.QueryText.{watch_text}
use Rattle.mcs_answers.proofs.lists.put_spaced_watches.Given as goal

abbrev pub invariant-loop-watch : goal.invariant-loop-watch
invariant-loop-watch l = record {
  text : l.answer.items ≡ l.fn.answer.items ++ flat_map (λ watch. codes " " ++ watch_text watch) (take l.watch-index l.list);
  count : length l.answer.items ≡ length l.fn.answer.items + 5 * l.watch-index;
}
