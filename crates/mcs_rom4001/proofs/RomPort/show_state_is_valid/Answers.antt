use Rattle.std.proofs.Common.{subst, arith}
use Rattle.mcs_rom4001.specs.Roms.{IsValidPort}
use Rattle.mcs_rom4001.proofs.RomPort.show_state_is_valid.Goals as goal

pub returns : goal.returns
returns c =
    subst IsValidPort c.self.view_is (record {
      latch = omega (arith, c.get-latch.ensures.value, c.get-latch.ensures.in_range);
      inputs = c.self.invariant;
    })
