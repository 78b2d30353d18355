use Rattle.mcs_drive.proofs.ReadValueLemmas.{cycled-decided-by-value-read}
use Rattle.mcs_drive.proofs.laws.reads_decide_cycle.Goals as goal

pub returns : goal.returns
returns c = cycled-decided-by-value-read
