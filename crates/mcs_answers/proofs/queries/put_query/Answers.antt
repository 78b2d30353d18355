use Rattle.std.proofs.Common.{rules}
use Rattle.mcs_answers.proofs.queries.put_query.Goals as goal

pub returns-in-Ram : goal.returns-in-Ram
returns-in-Ram c = search rules
