use Rattle.mcs_bench.proofs.ChipListLemmas.{FillsPorts}
use Rattle.mcs_bench.proofs.restoring.fill_rom_ports.Given as goal

abbrev pub invariant-loop-chip : goal.invariant-loop-chip
invariant-loop-chip l = FillsPorts l.fn.rig l.rig l.ports l.chip
