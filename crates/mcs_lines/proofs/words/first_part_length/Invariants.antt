use Rattle.std.proofs.Common.{take}
use Rattle.mcs_model.specs.Cutting.{HasNoSeparator}
use Rattle.mcs_lines.specs.Words.{is_dot}
use Rattle.mcs_lines.proofs.words.first_part_length.Given as goal

abbrev pub invariant-loop-at : goal.invariant-loop-at
invariant-loop-at l = HasNoSeparator is_dot (take l.at l.word)
