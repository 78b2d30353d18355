use Rattle.std.proofs.Common.{rules}
use Rattle.mcs_asm.proofs.names.address_after_statement.Goals as goal

pub returns-in-Some-Origin-clause-at : goal.returns-in-Some-Origin-clause-at
returns-in-Some-Origin-clause-at c = search rules
