use Rattle.mcs_model.specs.Command.{machine_of, stops_of}
use Rattle.mcs_probe.specs.Forecast.{instructions_begun_in}
use Rattle.mcs_answers.proofs.ForecastLaws.{runs-equal-counted-lines}
use Rattle.mcs_answers.proofs.laws.counts_match_the_trace.Goals as goal

pub returns : goal.returns
returns c = λ b n at. runs-equal-counted-lines at (instructions_begun_in (stops_of b) n (machine_of b))
