use Rattle.std.proofs.Common.{length, string_bytes}
use Rattle.mcs_source.specs.SourceText.{source_text}
use Rattle.mcs_dis.proofs.Loops.{IsSourceSoFar}
use Rattle.mcs_dis.proofs.listings.source.Given as goal

abbrev pub invariant-loop-rest : goal.invariant-loop-rest
invariant-loop-rest l = IsSourceSoFar (source_text l.rom l.fn.from l.to) (string_bytes l.out) l.at l.rest

abbrev pub decreases-loop-rest : goal.decreases-loop-rest
decreases-loop-rest l = length l.rest
