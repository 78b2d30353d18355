use Rattle.std.proofs.Common.{rules}
use Rattle.mcs_wiring.proofs.reading.parts_in.Goals as goal

pub returns : goal.returns
returns c = search rules
