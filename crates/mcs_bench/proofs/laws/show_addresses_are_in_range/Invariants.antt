use Rattle.std.proofs.Common.{ℕ, ◌<◌, get_or}
use Rattle.mcs_bench.proofs.laws.show_addresses_are_in_range.Given as goal

abbrev pub invariant-loop-i : goal.invariant-loop-i
invariant-loop-i l = (k : ℕ) → k < l.i → get_or l.list k 0 < 4096
