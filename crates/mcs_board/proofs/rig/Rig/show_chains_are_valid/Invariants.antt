use Rattle.std.proofs.Common.{ℕ, ◌<◌, [], get_or}
use Rattle.std.specs.Prelude.{All}
use Rattle.mcs_board.proofs.rig.Rig.show_chains_are_valid.Given as goal

abbrev pub invariant-loop-i : goal.invariant-loop-i
invariant-loop-i g l = (k : ℕ) → k < l.i → All (λ bit. bit < 2) (get_or l.chains k [])
