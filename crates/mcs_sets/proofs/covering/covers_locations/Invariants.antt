use Rattle.std.proofs.Common.{◌<◌, ℕ}
use Rattle.mcs_sets.specs.Covering.{CoversLocation}
use Rattle.mcs_sets.proofs.covering.covers_locations.Given as goal

abbrev pub invariant-loop-location : goal.invariant-loop-location
invariant-loop-location l = (k : ℕ) → k < l.location → CoversLocation l.source l.target l.landing k
