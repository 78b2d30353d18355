use Rattle.std.proofs.Common.{take}
use Rattle.mcs_model.specs.Cutting.{HasNoSeparator}
use Rattle.mcs_model.specs.TextLines.{is_blank}
use Rattle.mcs_lines.proofs.words.first_word_length.Given as goal

abbrev pub invariant-loop-at : goal.invariant-loop-at
invariant-loop-at l = HasNoSeparator is_blank (take l.at l.line)
