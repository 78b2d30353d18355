-- Calls that are made one after another, and the number of unsynced writes after each call.
use Rattle.std.proofs.Common.{◌≡◌, inl, inr, ⊎_elim, ◌≤◌, List, [], ◌∷◌, ◌++◌, ℕ, zero, suc, replicate, refl, sym, ◌∙◌, ap, subst, append_assoc, Result, Ok, Err}
use Rattle.mcs_disk.specs.CallList.{IsCutShort, IsFailureOf, MakesCalls, AtMostOneUnsynced, unsynced_writes}
use Rattle.mcs_disk.specs.Calls.{DiskCall, Failed, Synced, WasRead, Wrote}
use Rattle.mcs_disk.specs.Stretches.{writes_of}

-- `AtMostOneUnsynced` holds for an empty stretch
pub at_most_one_unsynced_without_calls : (calls : List DiskCall) → AtMostOneUnsynced calls calls
at_most_one_unsynced_without_calls calls = record { added = []; all = refl; each = none }
  where
    none : (later earlier : List DiskCall) (call : DiskCall) → [] ≡ later ++ call ∷ earlier → unsynced_writes (call ∷ earlier ++ calls) ≤ 1
    none [] earlier call is = cc
    none (c ∷ later) earlier call is = cc

-- if `first` succeeded and `second` was cut short, then `first` followed by `second` was cut short
pub cut_short_in_second : (first second : List DiskCall) (old mid new : List DiskCall) → mid ≡ first ++ old → IsCutShort second mid new → IsCutShort (second ++ first) old new
cut_short_in_second first [] old mid new is none = absurd none
cut_short_in_second first (Wrote at from ∷ second) old mid new is (inl failed) = inl (subst (λ (l : List DiskCall). IsFailureOf (Wrote at from) l new) (ap (λ (l : List DiskCall). second ++ l) is ∙ sym (append_assoc second first old)) failed)
cut_short_in_second first (WasRead ∷ second) old mid new is (inl failed) = inl (failed ∙ ap (λ (l : List DiskCall). second ++ l) is ∙ sym (append_assoc second first old))
cut_short_in_second first (Failed at from now ∷ second) old mid new is (inl failed) = inl (failed ∙ ap (λ (l : List DiskCall). second ++ l) is ∙ sym (append_assoc second first old))
cut_short_in_second first (Synced ∷ second) old mid new is (inl failed) = inl (failed ∙ ap (λ (l : List DiskCall). second ++ l) is ∙ sym (append_assoc second first old))
cut_short_in_second first (call ∷ second) old mid new is (inr before) = inr (cut_short_in_second first second old mid new is before)

-- if `first` was cut short, then `first` followed by `second` was cut short
pub cut_short_in_first : (first second : List DiskCall) (old new : List DiskCall) → IsCutShort first old new → IsCutShort (second ++ first) old new
cut_short_in_first first [] old new cut = cut
cut_short_in_first first (call ∷ second) old new cut = inr (cut_short_in_first first second old new cut)

-- if `first` succeeded, and `second` was then made with the result `result`, then `first` followed
-- by `second` was made with `result`
pub makes_calls_after_first_succeeds : {T E : Type 0} (first second : List DiskCall) (old mid new : List DiskCall) (result : Result T E)
    → mid ≡ first ++ old → MakesCalls second mid new result → MakesCalls (second ++ first) old new result
makes_calls_after_first_succeeds first second old mid new (Ok x) is made = record { all = made.all ∙ ap (λ (l : List DiskCall). second ++ l) is ∙ sym (append_assoc second first old); cut = tt }
makes_calls_after_first_succeeds first second old mid new (Err e) is made = record { all = tt; cut = cut_short_in_second first second old mid new is made.cut }

-- if `first` failed, then `first` followed by `second` failed
pub makes_calls_if_first_fails : {T E U V : Type 0} (first second : List DiskCall) (old new : List DiskCall) (e : E) (f : V) → MakesCalls {T = T} {E = E} first old new (Err e) → MakesCalls {T = U} {E = V} (second ++ first) old new (Err f)
makes_calls_if_first_fails first second old new e f made = record { all = tt; cut = cut_short_in_first first second old new made.cut }

-- a read adds no write to the list
pub reads_write_nothing : {T E : Type 0} (old new : List DiskCall) (result : Result T E) → MakesCalls (WasRead ∷ []) old new result → writes_of new ≡ writes_of old
reads_write_nothing old new (Ok x) made = ap writes_of made.all
reads_write_nothing old new (Err e) made = ⊎_elim (λ same. ap writes_of same) (λ none. absurd none) made.cut

-- a sync adds no write to the list
pub syncs_write_nothing : {T E : Type 0} (old new : List DiskCall) (result : Result T E) → MakesCalls (Synced ∷ []) old new result → writes_of new ≡ writes_of old
syncs_write_nothing old new (Ok x) made = ap writes_of made.all
syncs_write_nothing old new (Err e) made = ⊎_elim (λ same. ap writes_of same) (λ none. absurd none) made.cut

-- holds if at most one write is unsynced after each of these calls
abbrev pub EachLeavesOneUnsynced : List DiskCall → List DiskCall → Type 0
EachLeavesOneUnsynced old [] = Unit {0}
EachLeavesOneUnsynced old (call ∷ made) = (unsynced_writes (call ∷ made ++ old) ≤ 1) × EachLeavesOneUnsynced old made

one_unsynced_write_at_each_call : (old made later earlier : List DiskCall) (call : DiskCall) → EachLeavesOneUnsynced old made → made ≡ later ++ call ∷ earlier → unsynced_writes (call ∷ earlier ++ old) ≤ 1
one_unsynced_write_at_each_call old [] [] earlier call ones is = cc
one_unsynced_write_at_each_call old [] (d ∷ later) earlier call ones is = cc
one_unsynced_write_at_each_call old (c ∷ made) [] earlier call ones is = subst (λ (l : List DiskCall). unsynced_writes (l ++ old) ≤ 1) is ones.0
one_unsynced_write_at_each_call old (c ∷ made) (d ∷ later) earlier call ones is = one_unsynced_write_at_each_call old made later earlier call ones.1 cc

each_leaves_one_unsynced_if_bounded : (old made : List DiskCall) → ((later earlier : List DiskCall) (call : DiskCall) → made ≡ later ++ call ∷ earlier → unsynced_writes (call ∷ earlier ++ old) ≤ 1) → EachLeavesOneUnsynced old made
each_leaves_one_unsynced_if_bounded old [] each = tt
each_leaves_one_unsynced_if_bounded old (c ∷ made) each = (each [] made c refl, each_leaves_one_unsynced_if_bounded old made (λ later earlier call is. each (c ∷ later) earlier call (ap (λ (l : List DiskCall). c ∷ l) is)))

each_leaves_one_unsynced_in_both : (old first second : List DiskCall) → EachLeavesOneUnsynced old first → EachLeavesOneUnsynced (first ++ old) second → EachLeavesOneUnsynced old (second ++ first)
each_leaves_one_unsynced_in_both old first [] before ones = before
each_leaves_one_unsynced_in_both old first (c ∷ second) before ones = (subst (λ (l : List DiskCall). unsynced_writes (c ∷ l) ≤ 1) (sym (append_assoc second first old)) ones.0, each_leaves_one_unsynced_in_both old first second before ones.1)

pub at_most_one_unsynced_if_each_leaves_one : (old new made : List DiskCall) → new ≡ made ++ old → EachLeavesOneUnsynced old made → AtMostOneUnsynced old new
at_most_one_unsynced_if_each_leaves_one old new made is ones = record { added = made; all = is; each = λ later earlier call cut. one_unsynced_write_at_each_call old made later earlier call ones cut }

-- if two consecutive stretches each leave at most one write unsynced after each call, then so do
-- both together
pub at_most_one_unsynced_in_both : (old mid new : List DiskCall) → AtMostOneUnsynced old mid → AtMostOneUnsynced mid new → AtMostOneUnsynced old new
at_most_one_unsynced_in_both old mid new first second =
    at_most_one_unsynced_if_each_leaves_one old new (second.added ++ first.added) (second.all ∙ ap (λ (l : List DiskCall). second.added ++ l) first.all ∙ sym (append_assoc second.added first.added old))
    (each_leaves_one_unsynced_in_both old first.added second.added (each_leaves_one_unsynced_if_bounded old first.added first.each)
    (subst (λ (l : List DiskCall). EachLeavesOneUnsynced l second.added) first.all (each_leaves_one_unsynced_if_bounded mid second.added second.each)))

at_most_one_unsynced_if_cut_short : (plan old new : List DiskCall) → EachLeavesOneUnsynced old plan → IsCutShort plan old new → AtMostOneUnsynced old new
at_most_one_unsynced_if_cut_short [] old new ones none = absurd none
at_most_one_unsynced_if_cut_short (Wrote at from ∷ plan) old new ones (inl (inl same)) = at_most_one_unsynced_if_each_leaves_one old new plan same ones.1
at_most_one_unsynced_if_cut_short (Wrote at from ∷ plan) old new ones (inl (inr torn)) = at_most_one_unsynced_if_each_leaves_one old new (Failed at from torn.0 ∷ plan) torn.1 ones
at_most_one_unsynced_if_cut_short (WasRead ∷ plan) old new ones (inl same) = at_most_one_unsynced_if_each_leaves_one old new plan same ones.1
at_most_one_unsynced_if_cut_short (Failed at from now ∷ plan) old new ones (inl same) = at_most_one_unsynced_if_each_leaves_one old new plan same ones.1
at_most_one_unsynced_if_cut_short (Synced ∷ plan) old new ones (inl same) = at_most_one_unsynced_if_each_leaves_one old new plan same ones.1
at_most_one_unsynced_if_cut_short (call ∷ plan) old new ones (inr before) = at_most_one_unsynced_if_cut_short plan old new ones.1 before

-- if each planned call leaves at most one unsynced write, so does each call that was made
pub at_most_one_unsynced_after_calls : {T E : Type 0} (plan old new : List DiskCall) (result : Result T E) → EachLeavesOneUnsynced old plan → MakesCalls plan old new result → AtMostOneUnsynced old new
at_most_one_unsynced_after_calls plan old new (Ok x) ones made = at_most_one_unsynced_if_each_leaves_one old new plan made.all ones
at_most_one_unsynced_after_calls plan old new (Err e) ones made = at_most_one_unsynced_if_cut_short plan old new ones made.cut

-- reads leave the number of unsynced writes unchanged
pub unsynced_writes_unchanged_by_reads : (n : ℕ) (old : List DiskCall) → unsynced_writes (replicate n WasRead ++ old) ≡ unsynced_writes old
unsynced_writes_unchanged_by_reads zero old = refl
unsynced_writes_unchanged_by_reads (suc n) old = unsynced_writes_unchanged_by_reads n old

pub each_read_leaves_one_unsynced : (n : ℕ) (old : List DiskCall) → unsynced_writes old ≤ 1 → EachLeavesOneUnsynced old (replicate n WasRead)
each_read_leaves_one_unsynced zero old one = tt
each_read_leaves_one_unsynced (suc n) old one = (subst (λ (k : ℕ). k ≤ 1) (sym (unsynced_writes_unchanged_by_reads n old)) one, each_read_leaves_one_unsynced n old one)
