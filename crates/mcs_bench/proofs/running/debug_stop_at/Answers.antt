use Rattle.std.proofs.Common.{rules}
use Rattle.mcs_bench.proofs.running.debug_stop_at.Goals as goal

pub returns-then-changed-clause-mark : goal.returns-then-changed-clause-mark
returns-then-changed-clause-mark c = search rules
