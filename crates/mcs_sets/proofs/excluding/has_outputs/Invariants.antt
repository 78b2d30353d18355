use Rattle.std.proofs.Common.{◌≡◌, ◌<◌, ℕ, true}
use Rattle.mcs_check.specs.Mistaken.{has_output}
use Rattle.mcs_sets.specs.Entries.{contains}
use Rattle.mcs_sets.proofs.excluding.has_outputs.Given as goal

abbrev pub invariant-loop-n : goal.invariant-loop-n
invariant-loop-n l = (k : ℕ) → k < l.n → contains l.set k ≡ true → has_output l.board k ≡ true
