use Rattle.std.proofs.Common.{rules}
use Rattle.mcs_code.proofs.encode.Goals as goal

pub returns-in-Fim-clause-second : goal.returns-in-Fim-clause-second
returns-in-Fim-clause-second c = search rules
