use Rattle.std.proofs.Common.{◌≡◌, ◌<◌, ℕ, slice_index, true}
use Rattle.mcs_drive.specs.TrackedMachine.{with_zero_counts}
use Rattle.mcs_sets.specs.Entries.{contains, value_at}
use Rattle.mcs_sets.proofs.certifying.allows_all_values.Given as goal

abbrev pub invariant-loop-location : goal.invariant-loop-location
invariant-loop-location l = (k : ℕ) → k < l.location → contains (slice_index l.entry.sets k) (value_at (with_zero_counts (l.cpu, l.rig)) k) ≡ true
