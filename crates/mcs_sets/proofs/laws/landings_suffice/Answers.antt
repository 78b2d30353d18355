use Rattle.mcs_sets.proofs.Steps.{landings-suffice}
use Rattle.mcs_sets.proofs.laws.landings_suffice.Goals as goal

pub returns : goal.returns
returns c = landings-suffice
