use Rattle.mcs_version1.proofs.Lifting.{command-lifts, fold-lifts}
use Rattle.mcs_version1.proofs.laws.commands_lift.Goals as goal

pub returns-clause-each : goal.returns-clause-each
returns-clause-each c = λ s d h. command-lifts s d h

pub returns-clause-folds : goal.returns-clause-folds
returns-clause-folds c = λ s cs h. fold-lifts s cs h
