use Rattle.mcs_sets.proofs.Lands.{landing-is-correct}
use Rattle.mcs_sets.proofs.laws.landing_is_correct.Goals as goal

pub returns : goal.returns
returns c = landing-is-correct
