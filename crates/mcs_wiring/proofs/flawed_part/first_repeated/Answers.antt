use Rattle.std.proofs.Common.{arith}
use Rattle.mcs_wiring.proofs.PartLists.{first_repeated_is_index, first_repeated_is_after_index}
use Rattle.mcs_wiring.proofs.flawed_part.first_repeated.Goals as goal

pub returns-then-has_number-clause-same : goal.returns-then-has_number-clause-same
returns-then-has_number-clause-same g c = first_repeated_is_index c.args.parts.now c.loop-i.i c.index-parts-i.result c.has_number.result (omega arith) c.index-parts-i.is c.has_number.ensures c.if-has_number.true c.loop-i.invariant

pub loop-i-preserved : goal.loop-i-preserved
loop-i-preserved g c = first_repeated_is_after_index c.args.parts.now c.loop-i.i c.index-parts-i.result c.has_number.result (omega arith) c.index-parts-i.is c.has_number.ensures c.if-has_number.false c.loop-i.invariant
