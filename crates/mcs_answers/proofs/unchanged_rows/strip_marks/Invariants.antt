use Rattle.std.proofs.Common.{◌≡◌, ◌++◌, map, take}
use Rattle.mcs_model.specs.Levels.{level}
use Rattle.mcs_model.specs.QueryText.{lamp_mark}
use Rattle.mcs_answers.proofs.unchanged_rows.strip_marks.Given as goal

abbrev pub invariant-loop-i : goal.invariant-loop-i
invariant-loop-i l = l.text ≡ map (λ line. lamp_mark (level l.bench.bus line)) (take l.i l.bench.bus.board.lamps.items) ++ l.rest
