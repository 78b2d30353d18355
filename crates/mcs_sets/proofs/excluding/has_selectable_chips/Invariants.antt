use Rattle.std.proofs.Common.{◌≡◌, ◌<◌, ◌/◌, ℕ, slice_index, true}
use Rattle.mcs_sets.specs.Entries.{contains}
use Rattle.mcs_sets.proofs.excluding.has_selectable_chips.Given as goal

abbrev pub invariant-loop-n : goal.invariant-loop-n
invariant-loop-n l = (k : ℕ) → k < l.n → contains l.set k ≡ true → k / 4 < slice_index l.board.banks l.bank
