-- The disk calls of each method of a store, derived from the disk calls of the functions that the
-- method calls.
use Rattle.std.proofs.Common.{◌≡◌, ◌⊎◌, inl, inr, ⊎_elim, ◌+◌, ◌*◌, List, [], ◌∷◌, ◌++◌, ℕ, append_assoc, sym, ◌∙◌, ap, subst, arith, refl, Result, Ok, Err, IsErrOf}
use Rattle.mcs_disk.specs.CallList.{IsCutShort, MakesCalls, AtMostOneUnsynced, unsynced_writes}
use Rattle.mcs_disk.specs.Calls.{DiskCall, Synced, WasRead}
use Rattle.mcs_disk.proofs.CallSequences.{at_most_one_unsynced_if_each_leaves_one, at_most_one_unsynced_after_calls, each_read_leaves_one_unsynced, at_most_one_unsynced_in_both, unsynced_writes_unchanged_by_reads, at_most_one_unsynced_without_calls}
use Rattle.mcs_journal.specs.Calls.{MakesWithArea, FailedCreateCalls, FailedOpenCalls, append_calls, create_calls, read_calls, open_calls, replace_calls}
use Rattle.mcs_journal.specs.declared.slot.Slot.{Slot}
use Rattle.mcs_journal.proofs.ErrorResults.{IsHeaderFault}
use Rattle.mcs_journal.specs.declared.fault.StoreFault.{StoreFault}
use Rattle.mcs_journal.specs.declared.fault.StoreFault.TheVariants as store_fault

-- If no write is unsynced before a method (`synced`), at most one write is unsynced after each of
-- its disk calls.
module _ (old : List DiskCall) (synced : unsynced_writes old ≡ 0) where
  pub append_at_most_one_unsynced : {T E : Type 0} (at : ℕ) (payload : List ℕ) (new : List DiskCall) (result : Result T E) → MakesCalls (append_calls at payload) old new result → AtMostOneUnsynced old new
  append_at_most_one_unsynced at payload new result made = at_most_one_unsynced_after_calls (append_calls at payload) old new result (omega arith, (omega arith, (omega arith, (omega (arith, synced), tt)))) made

  pub replace_at_most_one_unsynced : {T E : Type 0} (snap : List ℕ) (slot : Slot) (new : List DiskCall) (result : Result T E) → MakesWithArea snap (replace_calls slot) old new result → AtMostOneUnsynced old new
  replace_at_most_one_unsynced snap slot new result makes = at_most_one_unsynced_after_calls (replace_calls slot makes.area) old new result (omega arith, (omega arith, (omega arith, (omega (arith, synced), tt)))) makes.makes_calls

  one_read : AtMostOneUnsynced old (WasRead ∷ old)
  one_read = at_most_one_unsynced_if_each_leaves_one old (WasRead ∷ old) (WasRead ∷ []) refl (omega (arith, synced), tt)

  pub create_at_most_one_unsynced : {T E : Type 0} (snap : List ℕ) (new : List DiskCall) (result : Result T E) → MakesWithArea snap create_calls (WasRead ∷ old) new result → AtMostOneUnsynced old new
  create_at_most_one_unsynced snap new result makes =
      at_most_one_unsynced_in_both old (WasRead ∷ old) new one_read
      (at_most_one_unsynced_after_calls (create_calls makes.area) (WasRead ∷ old) new result (omega arith, (omega arith, (omega arith, (omega (arith, synced), tt)))) makes.makes_calls)

  same_one : (new : List DiskCall) → new ≡ old → AtMostOneUnsynced old new
  same_one new same = subst (AtMostOneUnsynced old) (sym same) (at_most_one_unsynced_without_calls old)

  pub refused_create_at_most_one_unsynced : {T E : Type 0} (fault : StoreFault) (snap : List ℕ) (new : List DiskCall) (result : Result T E) → FailedCreateCalls fault snap old new result → AtMostOneUnsynced old new
  refused_create_at_most_one_unsynced store_fault.NotBlank snap new result (inl same) = same_one new same
  refused_create_at_most_one_unsynced store_fault.NotBlank snap new result (inr read) = subst (AtMostOneUnsynced old) (sym read) one_read
  refused_create_at_most_one_unsynced store_fault.Device snap new result (inl same) = same_one new same
  refused_create_at_most_one_unsynced store_fault.Device snap new result (inr makes) = create_at_most_one_unsynced snap new result makes
  refused_create_at_most_one_unsynced store_fault.NoMemory snap new result same = same_one new same
  refused_create_at_most_one_unsynced store_fault.NotASession snap new result none = absurd none
  refused_create_at_most_one_unsynced store_fault.Damaged snap new result none = absurd none

-- `MakesWithArea` does not depend on the type of the result, only on whether the result is Ok or
-- Err
pub makes_with_area_of_other_ok : {T E U V : Type 0} (snap : List ℕ) (calls : List ℕ → List DiskCall) (old mid new : List DiskCall) (x : T) (y : U) → mid ≡ old
    → MakesWithArea {T = T} {E = E} snap calls mid new (Ok x) → MakesWithArea {T = U} {E = V} snap calls old new (Ok y)
makes_with_area_of_other_ok snap calls old mid new x y same makes =
    record { area = makes.area; is_area = makes.is_area; makes_calls = record { all = makes.makes_calls.all ∙ ap (λ (l : List DiskCall). calls makes.area ++ l) same; cut = tt } }

pub makes_with_area_of_other_error : {T E U V : Type 0} (snap : List ℕ) (calls : List ℕ → List DiskCall) (old mid new : List DiskCall) (e : E) (f : V) → mid ≡ old
    → MakesWithArea {T = T} {E = E} snap calls mid new (Err e) → MakesWithArea {T = U} {E = V} snap calls old new (Err f)
makes_with_area_of_other_error snap calls old mid new e f same makes =
    record { area = makes.area; is_area = makes.is_area; makes_calls = record { all = tt; cut = subst (λ (l : List DiskCall). IsCutShort (calls makes.area) l new) same makes.makes_calls.cut } }

-- if `check_blank` returned Ok, the list of calls has one more read
pub one_read_if_check_blank_is_ok : (old new : List DiskCall) {T : Type 0} (x : T) (A : Type 0) → MakesCalls {T = T} {E = StoreFault} (WasRead ∷ []) old new (Ok x) ⊎ (IsErrOf {T = T} {E = StoreFault} (Ok x) store_fault.NotBlank × A) → new ≡ WasRead ∷ old
one_read_if_check_blank_is_ok old new x A (inl made) = made.all
one_read_if_check_blank_is_ok old new x A (inr other) = absurd (no_error other.0)
  where
    no_error : IsErrOf (Ok x) store_fault.NotBlank → ⊥
    no_error none = cc

error_is_not_device_and_not_blank : {T : Type 0} (read : Result T StoreFault) → read ≡ Err store_fault.Device → read ≡ Err store_fault.NotBlank → ⊥
error_is_not_device_and_not_blank read device not_blank = cc

-- the calls of a `create` that fails because the header cannot be read or is not blank
pub failed_create_calls_after_header_fault : {T U V : Type 0} (fault : StoreFault) (snap : List ℕ) (old new : List DiskCall) (read : Result T StoreFault) (result : Result U V) → read ≡ Err fault → IsHeaderFault fault
    → MakesCalls (WasRead ∷ []) old new read ⊎ (IsErrOf read store_fault.NotBlank × (new ≡ WasRead ∷ old)) → FailedCreateCalls fault snap old new result
failed_create_calls_after_header_fault fault snap old new (Ok x) result is of calls = absurd (no is)
  where
    no : Ok x ≡ Err fault → ⊥
    no same = cc
failed_create_calls_after_header_fault store_fault.NotBlank snap old new (Err e) result is of (inl made) = inl (⊎_elim (λ same. same) (λ none. absurd none) made.cut)
failed_create_calls_after_header_fault store_fault.NotBlank snap old new (Err e) result is of (inr read) = inr read.1
failed_create_calls_after_header_fault store_fault.Device snap old new (Err e) result is of (inl made) = inl (⊎_elim (λ same. same) (λ none. absurd none) made.cut)
failed_create_calls_after_header_fault store_fault.Device snap old new (Err e) result is of (inr read) = absurd (error_is_not_device_and_not_blank (Err e) is read.0)
failed_create_calls_after_header_fault store_fault.NoMemory snap old new (Err e) result is of calls = absurd (⊎_elim (λ same. cc) (λ same. cc) of)
failed_create_calls_after_header_fault store_fault.NotASession snap old new (Err e) result is of calls = absurd (⊎_elim (λ same. cc) (λ same. cc) of)
failed_create_calls_after_header_fault store_fault.Damaged snap old new (Err e) result is of calls = absurd (⊎_elim (λ same. cc) (λ same. cc) of)

-- during the calls of an `open`, a sync and then reads, at most one write is unsynced
pub at_most_one_unsynced_during_open : (n : ℕ) (old new : List DiskCall) → new ≡ open_calls n ++ old → AtMostOneUnsynced old new
at_most_one_unsynced_during_open n old new made = at_most_one_unsynced_in_both old (Synced ∷ old) new synced_one (at_most_one_unsynced_if_each_leaves_one (Synced ∷ old) new (read_calls (4 + 3 * n)) (made ∙ append_assoc (read_calls (4 + 3 * n)) (Synced ∷ []) old) (each_read_leaves_one_unsynced (4 + 3 * n) (Synced ∷ old) (omega arith)))
  where
    synced_one : AtMostOneUnsynced old (Synced ∷ old)
    synced_one = at_most_one_unsynced_if_each_leaves_one old (Synced ∷ old) (Synced ∷ []) refl (omega arith, tt)

pub at_most_one_unsynced_after_failed_open : (old new : List DiskCall) → FailedOpenCalls old new → AtMostOneUnsynced old new
at_most_one_unsynced_after_failed_open old new (inl same) = subst (AtMostOneUnsynced old) (sym same) (at_most_one_unsynced_without_calls old)
at_most_one_unsynced_after_failed_open old new (inr only) =
    at_most_one_unsynced_in_both old (Synced ∷ old) new (at_most_one_unsynced_if_each_leaves_one old (Synced ∷ old) (Synced ∷ []) refl (omega arith, tt))
    (at_most_one_unsynced_if_each_leaves_one (Synced ∷ old) new (read_calls only.count) only.all (each_read_leaves_one_unsynced only.count (Synced ∷ old) (omega arith)))

-- after the calls of an `open`, no write is unsynced
pub no_unsynced_write_after_open : (n : ℕ) (old new : List DiskCall) → new ≡ open_calls n ++ old → unsynced_writes new ≡ 0
no_unsynced_write_after_open n old new made = ap unsynced_writes (made ∙ append_assoc (read_calls (4 + 3 * n)) (Synced ∷ []) old) ∙ unsynced_writes_unchanged_by_reads (4 + 3 * n) (Synced ∷ old)
