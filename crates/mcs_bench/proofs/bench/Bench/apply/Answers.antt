use Rattle.std.proofs.Common.{rules}
use Rattle.mcs_bench.proofs.bench.Bench.apply.Goals as goal

pub returns-clause-state : goal.returns-clause-state
returns-clause-state c = search rules
