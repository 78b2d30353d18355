use Rattle.mcs_model.proofs.RunLemmas.{after_run-after_run}
use Rattle.mcs_model.proofs.laws.runs_compose.Goals as goal

pub returns : goal.returns
returns c = λ s a b. after_run-after_run a b s
