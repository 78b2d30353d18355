use Rattle.std.proofs.Common.{◌≡◌, take}
use Rattle.mcs_board.proofs.chains.copy_chains.Given as goal

abbrev pub invariant-loop-chain : goal.invariant-loop-chain
invariant-loop-chain g l = l.copy.items ≡ take l.chain-index l.chains.items
