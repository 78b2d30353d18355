use Rattle.mcs_nibble.proofs.PortLemmas.{latch_value-zero}
use Rattle.mcs_rom4001.proofs.RomPort.new.Goals as goal

pub invariant_of-result-2 : goal.invariant_of-result-2
invariant_of-result-2 c = latch_value-zero c.args.mask
