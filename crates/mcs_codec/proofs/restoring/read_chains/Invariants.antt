use Rattle.std.proofs.Common.{◌≡◌, drop, length}
use Rattle.mcs_bench.specs.States.{bits_of_chains}
use Rattle.mcs_codec.specs.StateReading.{chains_at}
use Rattle.mcs_codec.proofs.Loops.{with_front}
use Rattle.mcs_codec.proofs.restoring.read_chains.Given as goal

-- the bits already read, followed by the bits still to be read, are the bits of all chains
abbrev pub invariant-loop-chain : goal.invariant-loop-chain
invariant-loop-chain l = record {
  count : length l.read.items ≡ l.chain-index;
  all : with_front (bits_of_chains l.read.items) (chains_at (drop l.chain-index l.chains) l.reader) ≡ chains_at l.chains l.fn.reader;
}
