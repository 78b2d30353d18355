-- The rules of the search through the machines of a setting.
use Rattle.std.specs.Prelude.{ℕ, List}
use Rattle.std.specs.List.{Contains}
use Rattle.mcs_drive.specs.DrivenRuns.{AreAllowed, Levels}
use Rattle.mcs_drive.specs.TrackedMachine.{TrackedMachine, value_read}
use Rattle.mcs_search.specs.Rules.{Rules}
use Rattle.mcs_check.specs.StateVectors.{Setting, IsVectorOf}
use Rattle.mcs_check.specs.SearchStep.{IsState, Leads}

-- holds if `values` contains every value that a machine identified by `vector` can read in its next
-- cycle at input levels within the limits
abbrev pub Covers : Setting → List ℕ → List ℕ → Type 0
Covers g vector values =
    (a : TrackedMachine) → IsVectorOf g vector a → (l : Levels) → AreAllowed g.limits a.1.board l → Contains values (value_read l a)

-- the rules of the search. They promise nothing about a failure that the search reports, so a bench
-- must replay the failure.
abbrev pub rules_of : Setting → Rules
rules_of g = record {
  is_state = IsState g;
  covers = Covers g;
  leads = Leads g;
  fails = λ vector value. Unit {0};
}
