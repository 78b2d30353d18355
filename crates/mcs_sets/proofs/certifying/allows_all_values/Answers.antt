use Rattle.std.proofs.Common.{below_more}
use Rattle.mcs_sets.proofs.certifying.allows_all_values.Goals as goal

pub loop-location-preserved : goal.loop-location-preserved
loop-location-preserved c = below_more _ _ c.loop-location.invariant (c.allows_value.ensures c.if-not-allows_value.false)
