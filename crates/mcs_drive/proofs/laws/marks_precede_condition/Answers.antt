use Rattle.mcs_drive.proofs.PassedMarkLemmas.{marks-precede-condition}
use Rattle.mcs_drive.proofs.laws.marks_precede_condition.Goals as goal

pub returns : goal.returns
returns c = λ limits w. marks-precede-condition w limits
