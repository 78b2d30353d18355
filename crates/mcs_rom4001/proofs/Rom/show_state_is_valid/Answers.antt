use Rattle.std.proofs.Common.{subst}
use Rattle.mcs_rom4001.specs.Roms.{IsValidRom}
use Rattle.mcs_rom4001.proofs.Rom.show_state_is_valid.Goals as goal

pub returns : goal.returns
returns c =
    subst IsValidRom c.self.view_is (record {
      length_is = c.show_bytes_are_valid.ensures.count;
      bytes = c.show_bytes_are_valid.ensures.range;
      port = c.show_state_is_valid.ensures;
    })
