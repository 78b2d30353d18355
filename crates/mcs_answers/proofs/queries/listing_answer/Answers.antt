use Rattle.std.proofs.Common.{rules}
use Rattle.mcs_answers.proofs.queries.listing_answer.Goals as goal

pub returns : goal.returns
returns c = search rules
