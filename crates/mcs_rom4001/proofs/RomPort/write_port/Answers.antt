use Rattle.std.proofs.Common.{◌∙◌, ap, sym}
use Rattle.mcs_nibble.specs.Ports.{latch_value}
use Rattle.mcs_nibble.proofs.PortLemmas.{latch_value-of_latch_value}
use Rattle.mcs_rom4001.proofs.RomPort.write_port.Goals as goal

pub invariant_of-self : goal.invariant_of-self
invariant_of-self c =
    let mask = c.self.inside.mask in
    let written = c.latched_port-self-inside.ensures in
    ap (latch_value mask) written ∙ latch_value-of_latch_value mask c.args.n ∙ sym written
