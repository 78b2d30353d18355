use Rattle.mcs_sets.proofs.Certified.{closure-suffices}
use Rattle.mcs_sets.proofs.laws.closure_suffices.Goals as goal

pub returns : goal.returns
returns c = closure-suffices
