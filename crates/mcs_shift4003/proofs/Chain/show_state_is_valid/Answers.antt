use Rattle.std.proofs.Common.{All, List, ℕ, ◌<◌, subst}
use Rattle.mcs_shift4003.proofs.WordLemmas.{chain_bits-below_2}
use Rattle.mcs_shift4003.proofs.Chain.show_state_is_valid.Goals as goal

pub returns : goal.returns
returns g c = subst (λ (row : List ℕ). All (λ bit. bit < 2) row) c.self.view_is (chain_bits-below_2 c.self.inside.bits c.self.inside.words.items)
