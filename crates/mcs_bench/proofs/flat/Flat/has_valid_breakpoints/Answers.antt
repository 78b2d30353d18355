use Rattle.std.proofs.Common.{rules}
use Rattle.mcs_bench.proofs.flat.Flat.has_valid_breakpoints.Goals as goal

pub returns : goal.returns
returns c = search rules
