use Rattle.std.proofs.Common.{rules}
use Rattle.mcs_rom4001.proofs.latched_bit.Goals as goal

pub returns-in-Input : goal.returns-in-Input
returns-in-Input c = search rules
