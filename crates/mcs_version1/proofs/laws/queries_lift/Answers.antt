use Rattle.mcs_version1.proofs.Lifting.{query-lifts}
use Rattle.mcs_version1.proofs.laws.queries_lift.Goals as goal

pub returns : goal.returns
returns c = λ s q. query-lifts s q
