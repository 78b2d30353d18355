use Rattle.std.proofs.Common.{◌≡◌, replicate, []}
use Rattle.mcs_board.proofs.chains.empty_chains.Given as goal

abbrev pub invariant-loop : goal.invariant-loop
invariant-loop g l = l.chains.items ≡ replicate l.counter []
