use Rattle.std.proofs.Common.{rules}
use Rattle.mcs_bench.proofs.bench.Bench.copy.Goals as goal

pub returns : goal.returns
returns c = search rules
