use Rattle.std.proofs.Common.{below_more, arith}
use Rattle.mcs_sets.proofs.proving.all_entries_avoid.Goals as goal

pub loop-i-preserved : goal.loop-i-preserved
loop-i-preserved c = below_more _ _ c.loop-i.invariant (c.avoids_all_lists_at.ensures c.if-not-avoids_all_lists_at.false)

pub returns : goal.returns
returns c = λ _ k d h. c.loop-i.invariant k (let end = c.loop-i-test.false in omega arith) d
