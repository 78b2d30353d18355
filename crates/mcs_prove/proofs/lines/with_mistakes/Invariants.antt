use Rattle.std.proofs.Common.{◌≡◌, length}
use Rattle.mcs_model.specs.TextLines.{words_of}
use Rattle.mcs_prove.specs.QuestionLines.{no_mistakes, with_mistakes}
use Rattle.mcs_prove.proofs.lines.with_mistakes.Given as goal

abbrev pub invariant-loop-word : goal.invariant-loop-word
invariant-loop-word l = with_mistakes l.mistakes (words_of l.rest) ≡ with_mistakes no_mistakes (words_of l.fn.words)

abbrev pub decreases-loop-word : goal.decreases-loop-word
decreases-loop-word l = length (words_of l.rest)
