use Rattle.mcs_nibble.proofs.PortLemmas.{latch_value-zero}
use Rattle.mcs_rom4001.proofs.RomPort.clear_port.Goals as goal

pub invariant_of-self-2 : goal.invariant_of-self-2
invariant_of-self-2 c = latch_value-zero c.self.inside.mask
