use Rattle.std.proofs.Common.{rules}
use Rattle.mcs_journal.proofs.writing.check_blank.Goals as goal

pub returns-clause-blank : goal.returns-clause-blank
returns-clause-blank c = search rules
