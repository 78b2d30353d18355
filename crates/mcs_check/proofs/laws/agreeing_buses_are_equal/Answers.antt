use Rattle.mcs_check.proofs.Agreeing.{equal_buses-if_they_agree}
use Rattle.mcs_check.proofs.laws.agreeing_buses_are_equal.Goals as goal

pub returns : goal.returns
returns c = equal_buses-if_they_agree
