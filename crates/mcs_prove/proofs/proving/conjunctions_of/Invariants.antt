use Rattle.std.proofs.Common.{◌≡◌, map}
use Rattle.mcs_prove.proofs.proving.conjunctions_of.Given as goal

abbrev pub invariant-loop-conditions : goal.invariant-loop-conditions
invariant-loop-conditions l = l.conjunctions.items ≡ map (λ n. n.items) l.yielded
