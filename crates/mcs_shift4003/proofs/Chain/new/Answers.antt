use Rattle.std.proofs.Common.{ap, ◌∙◌}
use Rattle.mcs_shift4003.specs.Packing.{chain_bits_of}
use Rattle.mcs_shift4003.proofs.WordLemmas.{chain_bits_of-zeros}
use Rattle.mcs_shift4003.proofs.Chain.new.Goals as goal

pub returns : goal.returns
returns g c = ap (chain_bits_of c.args.bits) c.loop.invariant ∙ chain_bits_of-zeros c.args.bits _
