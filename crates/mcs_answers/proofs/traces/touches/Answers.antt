use Rattle.std.proofs.Common.{rules}
use Rattle.mcs_answers.proofs.traces.touches.Goals as goal

pub returns-in_default : goal.returns-in_default
returns-in_default c = search rules
