use Rattle.std.proofs.Common.{rules}
use Rattle.mcs_model.proofs.image.Image.push.Goals as goal

pub returns-clause-added : goal.returns-clause-added
returns-clause-added c = search rules
