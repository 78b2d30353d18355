use Rattle.std.proofs.Common.{◌≡◌, take}
use Rattle.mcs_bench.proofs.bench.Bench.rom.Given as goal

abbrev pub invariant-loop-at : goal.invariant-loop-at
invariant-loop-at l = l.rom.items ≡ take l.at l.self.bus.rom
