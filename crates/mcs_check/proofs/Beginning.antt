-- The machine at which a check begins.
use Rattle.std.proofs.Common.{◌≡◌, ℕ, List, Result, Ok, Err, IfOk, true, refl, sym, ap, subst}
use Rattle.mcs_model.specs.Validity.{IsValidBus, IsValidRegs}
use Rattle.std.specs.List.{All}
use Rattle.mcs_model.specs.declared.board.BoardParts.{BoardParts}
use Rattle.mcs_drive.specs.DrivenRuns.{AreAllowed, InputLimits}
use Rattle.mcs_drive.specs.TrackedMachine.{TrackedMachine, without_levels}
use Rattle.mcs_check.specs.declared.checking.Outcome.{Outcome}
use Rattle.mcs_check.specs.declared.checking.Outcome.TheVariants as outcome
use Rattle.mcs_check.specs.OutcomeMeaning.{IsProved, IsProvedAt}
use Rattle.mcs_check.specs.declared.cells.StateByte.{StateByte}
use Rattle.mcs_check.specs.Cells.{vector_of}
use Rattle.mcs_check.specs.Conditions.{PropertyConditions, meets_none, observer_of_property}
use Rattle.mcs_check.specs.HighestLevels.{with_highest_keys}
use Rattle.mcs_check.specs.StateVectors.{IsVectorOf, setting_of}
use Rattle.mcs_check.proofs.Always.{property_holds-if_only_levels_differ}
use Rattle.mcs_check.proofs.Ignoring.{conditions-ignore}
use Rattle.mcs_check.proofs.Steps.{on-own-board}

-- the state vector that is saved from the machine with each key at its highest level identifies
-- this machine
pub is_vector-of_machine_with_highest_keys : (limits : InputLimits) (layout : List StateByte) (property : PropertyConditions) (vector : List ℕ) (s m : TrackedMachine) → m ≡ with_highest_keys limits s → IsValidRegs m.0 → IsValidBus m.1 → meets_none property.never_lists m ≡ true → vector ≡ vector_of layout m → IsVectorOf (setting_of m limits layout property) vector m
is_vector-of_machine_with_highest_keys limits layout property vector s m e registers bus property_holds cells = record {
  on = on-own-board limits.keys m registers bus
      (subst (λ (x : TrackedMachine). x.1.keys ≡ limits.keys) (sym e) refl)
      (subst (λ (x : TrackedMachine). x.1.test ≡ 0) (sym e) refl);
  property_holds = property_holds;
  cells = cells;
}

-- what an outcome promises for the machine with each key at its highest level, it promises for the
-- machine before its keys were set
pub is_proved-before_keys_set : (limits : InputLimits) (property : PropertyConditions) (s m : TrackedMachine) (o : Outcome) → m ≡ with_highest_keys limits s → IsProved limits (observer_of_property property) (meets_none property.never_lists) m o → IsProved limits (observer_of_property property) (meets_none property.never_lists) s o
is_proved-before_keys_set limits property s m (outcome.Holds n) e holds = property_holds-if_only_levels_differ limits (observer_of_property property) (meets_none property.never_lists) m s (conditions-ignore property.never_lists) (ap without_levels e) holds
is_proved-before_keys_set limits property s m (outcome.MayFail values) e is = is
is_proved-before_keys_set limits property s m (outcome.MayFailWith levels) e is = subst (λ (b : BoardParts). All (AreAllowed limits b) levels.items) (ap (λ (x : TrackedMachine). x.1.board) e) is
is_proved-before_keys_set limits property s m outcome.TooMany e is = is
is_proved-before_keys_set limits property s m (outcome.NoMemory n) e is = is
is_proved-before_keys_set limits property s m outcome.GaveUp e is = is

-- an outcome that is proved for the state vector of the machine with each key at its highest level
-- is proved for the machine before its keys were set
pub outcome-before_keys_set : {E : Type 0} (limits : InputLimits) (layout : List StateByte) (property : PropertyConditions) (vector : List ℕ) (s m : TrackedMachine) (r : Result Outcome E) → m ≡ with_highest_keys limits s → IsVectorOf (setting_of m limits layout property) vector m → IfOk r (IsProvedAt (setting_of m limits layout property) vector) →
    IfOk r (IsProved limits (observer_of_property property) (meets_none property.never_lists) s)
outcome-before_keys_set limits layout property vector s m (Ok o) e is proved = is_proved-before_keys_set limits property s m o e (proved m is)
outcome-before_keys_set limits layout property vector s m (Err f) e is proved = tt
