use Rattle.std.proofs.Common.{◌≡◌, ℕ, ◌<◌, get_or, length}
use Rattle.mcs_wiring.specs.Wiring.{part_at}
use Rattle.mcs_wiring.proofs.reading.parts_by_number.Given as goal

abbrev pub invariant-loop-i : goal.invariant-loop-i
invariant-loop-i g l = record {
  size : length l.parts_by_number ≡ g.row.N;
  so_far : (k : ℕ) → k < l.i → get_or l.parts_by_number k l.none ≡ part_at l.none l.parts k;
}
