use Rattle.std.proofs.Common.{ap, ◌∙◌, sym, replicate, length}
use Rattle.mcs_shift4003.proofs.WordLemmas.{length-chain_bits_of}
use Rattle.mcs_shift4003.proofs.Chain.clear.Goals as goal

pub returns : goal.returns
returns g c = c.self-2.view_is ∙ c.new.ensures ∙ ap (λ n. replicate n 0) (sym (length-chain_bits_of c.self.inside.bits c.self.inside.words.items) ∙ ap length c.self.view_is)
