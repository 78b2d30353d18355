use Rattle.std.proofs.Common.{◌≡◌, ◌<◌, ℕ, true}
use Rattle.mcs_sets.specs.Entries.{contains}
use Rattle.mcs_sets.proofs.entries.is_subset.Given as goal

abbrev pub invariant-loop-n : goal.invariant-loop-n
invariant-loop-n l = (n : ℕ) → n < l.n → contains l.subset n ≡ true → contains l.superset n ≡ true
