use Rattle.std.proofs.Common.{◌≡◌, drop}
use Rattle.mcs_model.specs.ChipWrites.{with_rom_bytes}
use Rattle.mcs_prove.proofs.machine.load.Given as goal

abbrev pub invariant-loop-pair : goal.invariant-loop-pair
invariant-loop-pair l = with_rom_bytes l.rig (drop l.pair-index l.pair-items) ≡ with_rom_bytes l.fn.rig l.pair-items
