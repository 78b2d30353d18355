use Rattle.std.proofs.Common.{rules}
use Rattle.mcs_model.proofs.laws.limits_are_fixed.Goals as goal

pub returns-clause-sessions : goal.returns-clause-sessions
returns-clause-sessions c = search rules
