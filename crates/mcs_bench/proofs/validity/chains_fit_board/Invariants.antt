use Rattle.std.proofs.Common.{ℕ, ◌<◌, get_or, []}
use Rattle.mcs_model.specs.Boards.{chain_bits}
use Rattle.mcs_model.specs.Validity.{AreBelow}
use Rattle.mcs_bench.specs.States.{bits_of_chains}
use Rattle.mcs_bench.proofs.validity.chains_fit_board.Given as goal

abbrev pub invariant-loop-i : goal.invariant-loop-i
invariant-loop-i l = (k : ℕ) → k < l.i → AreBelow (chain_bits l.board k) 2 (get_or (bits_of_chains l.chains) k [])
