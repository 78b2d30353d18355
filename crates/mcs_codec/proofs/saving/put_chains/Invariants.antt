use Rattle.std.proofs.Common.{◌≡◌, ◌+◌, ◌++◌, length, take}
use Rattle.std.specs.List.{flat_map}
use Rattle.mcs_codec.proofs.saving.put_chains.Given as goal

-- the front of the buffer holds the bits of the first `n` chains
abbrev pub invariant-loop-n : goal.invariant-loop-n
invariant-loop-n l = record {
  end : l.end ≡ l.at + length (flat_map (λ bits. bits) (take l.n l.bench.bus.chains));
  front : take l.end l.out ≡ take l.at l.fn.out ++ flat_map (λ bits. bits) (take l.n l.bench.bus.chains);
}
