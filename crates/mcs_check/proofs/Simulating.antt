-- If the state vectors that a search found are a closure, the property holds for all inputs.
use Rattle.std.proofs.Common.{ℕ, List, Bool, refl}
use Rattle.std.specs.List.{Contains, All}
use Rattle.std.proofs.lemmas.List.Elements.{All-contains}
use Rattle.mcs_drive.specs.DrivenRuns.{AreAllowed, InputLimits, Levels}
use Rattle.mcs_drive.specs.TrackedMachine.{Observer, TrackedMachine, value_read, Holds}
use Rattle.mcs_drive.specs.RunsBetweenReads.{IgnoresLevels}
use Rattle.mcs_drive.proofs.ReadPoints.{Leads, IsClosedSet, closed-holds}
use Rattle.mcs_search.specs.Rules.{IsExpanded, LeadsInto, Closure}
use Rattle.mcs_check.specs.MachineRules.{MayHaveVector, machine_rules}

-- holds if a state vector in the list identifies the machine
record IsIdentifiedByOneOf (vectors : List (List ℕ)) (is_vector_of : List ℕ → TrackedMachine → Type 0) (a : TrackedMachine) : Type 0 where
  vector : List ℕ
  found : Contains vectors vector
  is : is_vector_of vector a

module _ (limits : InputLimits) (w : Observer) where
  leads-on : (p : TrackedMachine → Bool) (is_state : List ℕ → Type 0) (is_vector_of : List ℕ → TrackedMachine → Type 0) (vectors : List (List ℕ)) →
      All (IsExpanded (machine_rules limits w p is_state is_vector_of) vectors) vectors →
      (a : TrackedMachine) (l : Levels) → IsIdentifiedByOneOf vectors is_vector_of a → AreAllowed limits a.1.board l → Leads w p (IsIdentifiedByOneOf vectors is_vector_of) a l
  leads-on p is_state is_vector_of vectors expanded a l at allowed =
      let r = machine_rules limits w p is_state is_vector_of in
      let here = All-contains (IsExpanded r vectors) vectors at.vector expanded at.found in
      let to = All-contains (LeadsInto r vectors at.vector) here.0 (value_read l a) here.2 (here.1 a at.is l allowed) in
      let run = to.1.1 a at.is in
      (run.0, record { vector = to.0; found = to.2; is = run.1 }, (run.2 l allowed.fits refl).0)

  -- if the state vectors that a search found are a closure, the property holds for every machine
  -- that the start state vector identifies
  pub searched-holds : (p : TrackedMachine → Bool) (is_state : List ℕ → Type 0) (is_vector_of : List ℕ → TrackedMachine → Type 0) (start : List ℕ) (n : ℕ) →
      IgnoresLevels p → ((vector : List ℕ) (a : TrackedMachine) → is_vector_of vector a → MayHaveVector p a) →
      Closure (machine_rules limits w p is_state is_vector_of) start n → (a : TrackedMachine) → is_vector_of start a → Holds limits w p a
  searched-holds p is_state is_vector_of start n ignores read_point closure a is =
      let R : TrackedMachine → Type 0 = IsIdentifiedByOneOf closure.states is_vector_of in
      let closed : IsClosedSet w limits p R = record {
        ignores = ignores;
        sound = λ b at. (read_point at.vector b at.is).sound;
        property_holds = λ b at. (read_point at.vector b at.is).property_holds;
        leads = λ b l at allowed. leads-on p is_state is_vector_of closure.states closure.expanded b l at allowed;
      } in
      closed-holds w limits p R closed a (record { vector = start; found = closure.contains_start; is = is })
