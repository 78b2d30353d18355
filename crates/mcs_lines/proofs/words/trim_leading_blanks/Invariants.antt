use Rattle.std.proofs.Common.{◌≡◌, drop}
use Rattle.mcs_model.specs.TextLines.{words_of}
use Rattle.mcs_lines.proofs.words.trim_leading_blanks.Given as goal

abbrev pub invariant-loop-at : goal.invariant-loop-at
invariant-loop-at l = words_of (drop l.at l.line) ≡ words_of l.line
