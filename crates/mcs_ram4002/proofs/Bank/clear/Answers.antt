use Rattle.std.proofs.Common.{rules}
use Rattle.mcs_ram4002.proofs.Bank.clear.Goals as goal

pub returns : goal.returns
returns c = search rules
