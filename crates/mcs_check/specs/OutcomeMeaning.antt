-- The meaning of a search's outcome.
use Rattle.std.specs.Prelude.{ℕ, Bool, List}
use Rattle.std.specs.List.{All}
use Rattle.mcs_drive.specs.DrivenRuns.{AreAllowed, InputLimits}
use Rattle.mcs_drive.specs.TrackedMachine.{Observer, TrackedMachine, Holds}
use Rattle.mcs_check.specs.Conditions.{observer_of_property}
use Rattle.mcs_check.specs.StateVectors.{Setting, IsVectorOf, property_of}
use Rattle.mcs_check.specs.declared.checking.Outcome.{Outcome}
use Rattle.mcs_check.specs.declared.checking.Outcome.TheVariants as outcome

-- the promise of an outcome. `Holds` promises that the property p holds at every moment, for all
-- levels of the keys and TEST within the limits. The property may refer to the counts of the
-- machine. `MayFailWith` promises that the limits allow each of its levels. All other outcomes
-- promise nothing.
abbrev pub IsProved : InputLimits → Observer → (TrackedMachine → Bool) → TrackedMachine → Outcome → Type 0
IsProved limits w p s (outcome.Holds n) = Holds limits w p s
IsProved limits w p s (outcome.MayFail values) = Unit {0}
IsProved limits w p s (outcome.MayFailWith levels) = All (AreAllowed limits s.1.board) levels.items
IsProved limits w p s outcome.TooMany = Unit {0}
IsProved limits w p s (outcome.NoMemory n) = Unit {0}
IsProved limits w p s outcome.GaveUp = Unit {0}

-- the promise of an outcome for each machine that a state vector identifies
abbrev pub IsProvedAt : Setting → List ℕ → Outcome → Type 0
IsProvedAt g vector o =
    (a : TrackedMachine) → IsVectorOf g vector a → IsProved g.limits (observer_of_property g.property) (property_of g) a o
