use Rattle.std.proofs.Common.{◌≡◌, ◌<◌, ℕ, slice_index_or}
use Rattle.mcs_sets.specs.declared.entries.Entry.{Entry}
use Rattle.mcs_sets.specs.Closure.{StaysCoveredOneCycle}
use Rattle.mcs_sets.proofs.certifying.stays_covered.Given as goal

abbrev pub invariant-loop-i : goal.invariant-loop-i
invariant-loop-i l = record {
  stays_covered_one_cycle : (k : ℕ) (d : Entry) → k < l.i → StaysCoveredOneCycle l.initial.rig.board l.initial.rig.rom l.entries (slice_index_or l.entries k d);
  rom : l.rig.rom ≡ l.initial.rig.rom;
  board : l.rig.board ≡ l.initial.rig.board;
}
