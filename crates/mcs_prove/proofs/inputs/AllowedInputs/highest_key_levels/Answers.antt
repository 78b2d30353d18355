use Rattle.std.proofs.Common.{rules}
use Rattle.mcs_prove.proofs.inputs.AllowedInputs.highest_key_levels.Goals as goal

pub returns-else-self : goal.returns-else-self
returns-else-self c = search rules
