use Rattle.std.proofs.Common.{rules}
use Rattle.mcs_model.proofs.numeral.number_within.Goals as goal

pub returns-else-value-most : goal.returns-else-value-most
returns-else-value-most c = search rules
