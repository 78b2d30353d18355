use Rattle.std.proofs.Common.{◌≡◌, ℕ, ◌<◌, get_or, [], length}
use Rattle.mcs_bench.specs.States.{bits_of_chains}
use Rattle.mcs_bench.proofs.restoring.fill_chains.Given as goal

abbrev pub invariant-loop-i : goal.invariant-loop-i
invariant-loop-i l = record {
  others : l.rig ≡ record l.fn.rig { chains = l.rig.chains };
  len : length l.rig.chains ≡ length l.chains;
  done : (k : ℕ) → k < l.i → get_or l.rig.chains k [] ≡ get_or (bits_of_chains l.chains) k [];
}
