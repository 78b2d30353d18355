use Rattle.std.proofs.Common.{◌≡◌, ◌<◌, ℕ, true}
use Rattle.mcs_check.specs.Mistaken.{has_input}
use Rattle.mcs_sets.specs.Entries.{contains}
use Rattle.mcs_sets.proofs.excluding.has_inputs.Given as goal

abbrev pub invariant-loop-n : goal.invariant-loop-n
invariant-loop-n l = (k : ℕ) → k < l.n → contains l.set k ≡ true → has_input l.board k ≡ true
