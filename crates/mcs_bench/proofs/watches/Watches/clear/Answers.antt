use Rattle.std.proofs.Common.{sym, subst}
use Rattle.mcs_bench.specs.BreakpointSet.{AreRamIndices}
use Rattle.mcs_bench.proofs.OrderedLists.{ram-indices-without_listed}
use Rattle.mcs_bench.proofs.watches.Watches.clear.Goals as goal

pub invariant_of-self : goal.invariant_of-self
invariant_of-self c = subst AreRamIndices (sym c.clear.ensures) (ram-indices-without_listed c.self.inside.indices c.ram_nibble_index.result c.self.invariant)
