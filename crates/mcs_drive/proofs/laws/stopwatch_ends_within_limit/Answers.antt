use Rattle.mcs_drive.proofs.Timing.{ends-within}
use Rattle.mcs_drive.proofs.laws.stopwatch_ends_within_limit.Goals as goal

pub returns : goal.returns
returns c = λ limits w. ends-within w limits
