use Rattle.std.proofs.Common.{rules}
use Rattle.mcs_cpu4004.proofs.execute.decimal_adjust.Goals as goal

pub returns : goal.returns
returns c = search rules
