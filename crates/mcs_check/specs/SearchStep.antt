-- One step of the search. The state vectors of a search identify machines with one board and one
-- program.
use Rattle.std.specs.Prelude.{◌≡◌, ℕ, List, Bool, true, false}
use Rattle.mcs_drive.specs.DrivenRuns.{Levels, FitsBoard}
use Rattle.mcs_drive.specs.TrackedMachine.{TrackedMachine, value_read}
use Rattle.mcs_check.specs.declared.search_step.StepEnd.{StepEnd}
use Rattle.mcs_check.specs.declared.search_step.StepEnd.TheVariants.{Reached, Failed}
use Rattle.mcs_check.specs.Conditions.{observer_of_property}
use Rattle.mcs_check.specs.StateVectors.{Setting, IsVectorOf, property_of}
use Rattle.mcs_check.specs.MachineRules.{LeadsToIn}

-- holds if a state vector identifies some machine
abbrev pub IsState : Setting → List ℕ → Type 0
IsState g vector = (a : TrackedMachine) × IsVectorOf g vector a

-- holds if each machine that `vector` identifies reads `value` in its next cycle at the levels `l`
abbrev pub ReadsAt : Setting → List ℕ → Levels → ℕ → Type 0
ReadsAt g vector l value = (a : TrackedMachine) → IsVectorOf g vector a → value_read l a ≡ value

-- Holds if each machine that `vector` identifies runs to a machine that `next` identifies, at all
-- input levels at which the first machine reads `value`. The run takes exactly `cycles` cycles,
-- including the cycle that reads. The property holds at every step.
abbrev pub LeadsIn : Setting → ℕ → List ℕ → ℕ → List ℕ → Type 0
LeadsIn g cycles vector value next =
    (a : TrackedMachine) → IsVectorOf g vector a → (b : TrackedMachine) × IsVectorOf g next b
    × ((l : Levels) → FitsBoard a.1.board l → value_read l a ≡ value → LeadsToIn (observer_of_property g.property) (property_of g) cycles a b l)

-- holds if the machines that `vector` identifies run to machines that `next` identifies, in some
-- number of cycles (`LeadsIn`)
abbrev pub Leads : Setting → List ℕ → ℕ → List ℕ → Type 0
Leads g vector value next = (cycles : ℕ) × LeadsIn g cycles vector value next

-- true if a search step reached a next state
abbrev pub is_reached : StepEnd → Bool
is_reached (Reached cycles) = true
is_reached Failed = false

-- holds if a search step reached no next state, or if `fact` holds for the number of its cycles
abbrev pub IfReached : StepEnd → (ℕ → Type 0) → Type 0
IfReached (Reached cycles) fact = fact cycles
IfReached Failed fact = Unit {0}
