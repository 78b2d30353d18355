use Rattle.std.proofs.Common.{rules}
use Rattle.mcs_prove.proofs.inputs.AllowedInputs.most_keys_down.Goals as goal

pub returns-in-None : goal.returns-in-None
returns-in-None c = search rules
