use Rattle.mcs_drive.proofs.LimitLemmas.{all-inputs-allowed}
use Rattle.mcs_drive.proofs.laws.no_limits_allow_all_levels.Goals as goal

pub returns : goal.returns
returns c = all-inputs-allowed
