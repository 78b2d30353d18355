use Rattle.mcs_drive.proofs.EqualExceptLevels.{leads-if_same_read}
use Rattle.mcs_drive.proofs.laws.same_read_gives_same_run.Goals as goal

pub returns : goal.returns
returns c = leads-if_same_read
