use Rattle.std.proofs.Common.{◌≡◌, ℕ, ◌<◌, get_or}
use Rattle.std.specs.Prelude.{MatchOption}
use Rattle.mcs_nibble.specs.Ports.{latch_value}
use Rattle.mcs_model.specs.Boards.{rom_masks}
use Rattle.mcs_bench.proofs.validity.latches_can_hold.Given as goal

abbrev pub invariant-loop-chip : goal.invariant-loop-chip
invariant-loop-chip l = (k : ℕ) → k < l.chip → MatchOption (rom_masks l.board k) (get_or l.ports k 0 ≡ 0) (λ mask. latch_value mask (get_or l.ports k 0) ≡ get_or l.ports k 0)
