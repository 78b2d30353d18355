use Rattle.mcs_answers.proofs.ForecastLaws.{traces-add-up}
use Rattle.mcs_answers.proofs.laws.traces_add_up.Goals as goal

pub returns : goal.returns
returns c = λ probes b m n e. traces-add-up probes b m n e
