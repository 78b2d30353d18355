-- The rules of a search through machines. `Rules` of mcs_search describes any search whose states
-- are represented by state vectors. In this search, a state vector identifies machines, and
-- a step runs each of them from one read of an input to its next read. `is_vector_of` defines which
-- machines a state vector identifies.
use Rattle.std.specs.Prelude.{◌≡◌, ℕ, suc, List, Bool, true, false, None}
use Rattle.std.specs.List.{Contains}
use Rattle.mcs_model.specs.Boards.{board_fault_of}
use Rattle.mcs_drive.specs.DrivenRuns.{AreAllowed, FitsBoard, InputLimits, Levels}
use Rattle.mcs_drive.specs.TrackedMachine.{Observer, TrackedMachine, with_levels, after_cycles, value_read}
use Rattle.mcs_drive.specs.RunsBetweenReads.{LeadsTo}
use Rattle.mcs_search.specs.Rules.{Rules}

-- holds if a state vector may identify the machine: the machine has a valid board, and property p
-- holds for it
pub record MayHaveVector (p : TrackedMachine → Bool) (a : TrackedMachine) : Type 0 where
  pub sound : board_fault_of a.1.board ≡ None
  pub property_holds : p a ≡ true

-- holds if `a`, at the input levels `l`, reaches `b` in exactly `cycles` cycles (`LeadsTo`)
abbrev pub LeadsToIn : Observer → (TrackedMachine → Bool) → ℕ → TrackedMachine → TrackedMachine → Levels → Type 0
LeadsToIn w p cycles a b l = (run : LeadsTo w p a b l) × (cycles ≡ suc run.more)

-- The rules of a search whose state vectors identify machines. A choice is the value that a machine
-- reads in its next cycle.
--
-- - `covers`: the choices include every value that a machine identified by `vector` can read at
--   input levels within the limits
-- - `leads`: each machine identified by `vector` runs to one identified by `next`, at all input
--   levels at which the first machine reads the choice, and p holds at every step. All these runs
--   take the same number of cycles.
-- - `fails`: for each machine identified by `vector`, there are input levels l such that p fails
--   after some number of cycles at l
abbrev pub machine_rules : InputLimits → Observer → (TrackedMachine → Bool) → (List ℕ → Type 0) → (List ℕ → TrackedMachine → Type 0) → Rules
machine_rules limits w p is_state is_vector_of = record {
  is_state = is_state;
  covers = λ vector choices. (a : TrackedMachine) → is_vector_of vector a → (l : Levels) → AreAllowed limits a.1.board l → Contains choices (value_read l a);
  leads = λ vector c next. (cycles : ℕ) × ((a : TrackedMachine) → is_vector_of vector a →
      (b : TrackedMachine) × is_vector_of next b × ((l : Levels) → FitsBoard a.1.board l → value_read l a ≡ c → LeadsToIn w p cycles a b l));
  fails = λ vector c. (a : TrackedMachine) → is_vector_of vector a →
      (l : Levels) × FitsBoard a.1.board l × ((k : ℕ) × (p (after_cycles w k (with_levels l a)) ≡ false));
}
