use Rattle.mcs_source.proofs.Surveys.{span_addresses_match}
use Rattle.mcs_source.proofs.survey.spans_law.Goals as goal

pub returns : goal.returns
returns c = span_addresses_match
