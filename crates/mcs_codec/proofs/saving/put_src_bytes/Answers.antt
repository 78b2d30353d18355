use Rattle.std.proofs.lemmas.Grind.{common_steps}
use Rattle.std.proofs.Common.{arith}
use Rattle.mcs_codec.proofs.saving.put_src_bytes.Goals as goal

pub returns-clause-front : goal.returns-clause-front
returns-clause-front c = grind (arith, common_steps)
