use Rattle.std.proofs.Common.{◌<◌, ℕ, map, slice_index_or}
use Rattle.mcs_check.specs.Conditions.{meets_none}
use Rattle.mcs_sets.specs.declared.entries.Entry.{Entry}
use Rattle.mcs_sets.specs.Excluding.{HoldsInEntry}
use Rattle.mcs_sets.proofs.proving.all_entries_avoid.Given as goal

abbrev pub invariant-loop-i : goal.invariant-loop-i
invariant-loop-i l =
    (k : ℕ) → k < l.i → (d : Entry) → HoldsInEntry l.rig.board l.rig.rom (meets_none (map (λ n. n.items) l.never_lists)) (slice_index_or l.entries k d)
