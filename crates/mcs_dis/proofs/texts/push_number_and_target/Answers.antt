use Rattle.std.proofs.lemmas.Grind.{common_steps}
use Rattle.std.proofs.Common.{arith}
use Rattle.mcs_dis.proofs.texts.push_number_and_target.Goals as goal

pub returns : goal.returns
returns c = grind (arith, common_steps)
