use Rattle.std.proofs.Common.{length}
use Rattle.mcs_model.specs.TextLines.{words_of}
use Rattle.mcs_lines.proofs.ProbeLists.{IsParsedSoFar}
use Rattle.mcs_lines.proofs.probes.parse_probes.Given as goal

abbrev pub invariant-loop-word : goal.invariant-loop-word
invariant-loop-word l = IsParsedSoFar (words_of l.fn.line) (words_of l.unparsed) l.probes.items l.room l.has_bad_number

abbrev pub decreases-loop-word : goal.decreases-loop-word
decreases-loop-word l = length (words_of l.unparsed)
