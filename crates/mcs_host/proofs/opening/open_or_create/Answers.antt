use Rattle.std.proofs.Common.{rules}
use Rattle.mcs_host.proofs.opening.open_or_create.Goals as goal

pub returns-in-Ok-clause-named : goal.returns-in-Ok-clause-named
returns-in-Ok-clause-named c = search rules
