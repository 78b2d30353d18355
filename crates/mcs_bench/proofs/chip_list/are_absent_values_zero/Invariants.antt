use Rattle.std.proofs.Common.{◌≡◌, ℕ, ◌<◌, true, get_or}
use Rattle.mcs_bench.specs.ChipLists.{is_chip_absent}
use Rattle.mcs_bench.proofs.chip_list.are_absent_values_zero.Given as goal

abbrev pub invariant-loop-i : goal.invariant-loop-i
invariant-loop-i l = (k : ℕ) → k < l.i → is_chip_absent l.board l.list k ≡ true → get_or l.numbers k 0 ≡ 0
