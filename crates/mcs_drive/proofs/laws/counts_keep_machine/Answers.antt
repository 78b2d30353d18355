use Rattle.mcs_drive.proofs.Tracking.{tracks-machine}
use Rattle.mcs_drive.proofs.laws.counts_keep_machine.Goals as goal

pub returns : goal.returns
returns c = tracks-machine
