use Rattle.std.proofs.Common.{rules}
use Rattle.mcs_cpu4004.proofs.execute.pc_after_jcn.Goals as goal

pub returns-then-takes_jump : goal.returns-then-takes_jump
returns-then-takes_jump c = search rules
