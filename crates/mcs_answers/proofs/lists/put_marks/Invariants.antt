use Rattle.std.proofs.Common.{◌≡◌, ◌+◌, ◌++◌, length, map, take}
use Rattle.mcs_model.specs.Levels.{level}
use Rattle.mcs_model.specs.QueryText.{lamp_mark}
use Rattle.mcs_answers.proofs.lists.put_marks.Given as goal

abbrev pub invariant-loop-i : goal.invariant-loop-i
invariant-loop-i l = record {
  text : l.answer.items ≡ l.fn.answer.items ++ map (λ line. lamp_mark (level l.bench.bus line)) (take l.i l.bench.bus.board.lamps.items);
  count : length l.answer.items ≡ length l.fn.answer.items + l.i;
}
