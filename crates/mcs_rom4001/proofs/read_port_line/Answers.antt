use Rattle.std.proofs.Common.{rules}
use Rattle.mcs_rom4001.proofs.read_port_line.Goals as goal

pub returns-in-One : goal.returns-in-One
returns-in-One c = search rules
