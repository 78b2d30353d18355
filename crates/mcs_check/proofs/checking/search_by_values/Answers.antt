use Rattle.std.proofs.Common.{subst}
use Rattle.mcs_search.specs.Verdicts.{IsProved}
use Rattle.mcs_check.specs.SearchRules.{rules_of}
use Rattle.mcs_check.proofs.Always.{property_holds-if_search_is_closed}
use Rattle.mcs_check.proofs.Ignoring.{conditions-ignore}
use Rattle.mcs_check.proofs.checking.search_by_values.Goals as goal

pub returns-in-Holds : goal.returns-in-Holds
returns-in-Holds c = λ a at.
    let g = c.args.machines in
    let vector = c.args.vector.now in
    property_holds-if_search_is_closed g vector c.in-Holds.states a (conditions-ignore g.property.never_lists)
    (subst (IsProved (rules_of g) vector) c.in-Holds.is c.in_ok-states.ensures.proved) at
