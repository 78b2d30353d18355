use Rattle.std.proofs.Common.{ap, sym, ◌∙◌, length}
use Rattle.mcs_shift4003.proofs.WordLemmas.{length-chain_bits_of}
use Rattle.mcs_shift4003.proofs.Chain.bits.Goals as goal

pub returns-clause-bits : goal.returns-clause-bits
returns-clause-bits g c = sym (length-chain_bits_of c.self.inside.bits c.self.inside.words.items) ∙ ap length c.self.view_is
