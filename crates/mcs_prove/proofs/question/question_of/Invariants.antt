use Rattle.std.proofs.Common.{◌≡◌, drop, map}
use Rattle.mcs_prove.specs.Questions.{after_lines, question_of_text}
use Rattle.mcs_prove.proofs.question.question_of.Given as goal

abbrev pub invariant-loop-i : goal.invariant-loop-i
invariant-loop-i l = after_lines l.question (drop l.i (map (λ x. x.now) l.lines.items)) ≡ question_of_text l.fn.text
