use Rattle.std.proofs.Common.{below_more}
use Rattle.mcs_sets.proofs.covering.covers_locations.Goals as goal

pub loop-location-preserved : goal.loop-location-preserved
loop-location-preserved c = below_more _ _ c.loop-location.invariant (c.covers_location.ensures c.if-not-covers_location.false)
