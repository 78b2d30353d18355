use Rattle.std.proofs.Common.{rules}
use Rattle.mcs_disk.proofs.fuse.Fuse.next_call_fails.Goals as goal

pub returns-in-FailsAllAfter-eq0-clause-now : goal.returns-in-FailsAllAfter-eq0-clause-now
returns-in-FailsAllAfter-eq0-clause-now c = search rules
