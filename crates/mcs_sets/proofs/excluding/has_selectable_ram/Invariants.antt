use Rattle.std.proofs.Common.{◌≡◌, ◌<◌, ℕ, slice_index, true}
use Rattle.mcs_sets.specs.Entries.{contains}
use Rattle.mcs_sets.specs.Excluding.{HasChipsOfBank}
use Rattle.mcs_sets.proofs.excluding.has_selectable_ram.Given as goal

abbrev pub invariant-loop-bank : goal.invariant-loop-bank
invariant-loop-bank l = (k : ℕ) → k < l.bank → contains (slice_index l.entry.sets 16) k ≡ true → HasChipsOfBank l.board l.entry k
