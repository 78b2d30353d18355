use Rattle.std.proofs.Common.{rules}
use Rattle.mcs_answers.proofs.numbers.stop_name.Goals as goal

pub returns-in-Breakpoint-clause-name : goal.returns-in-Breakpoint-clause-name
returns-in-Breakpoint-clause-name c = search rules
