-- The requirement that conditions are met only after marks were seen, added one list at a time.
use Rattle.std.proofs.Common.{◌≡◌, ◌<◌, ◌-◌, ◌+◌, ◌++◌, ℕ, Bool, true, false, not, ◌&&◌, List, [], ◌∷◌, inl, inr, length, nat_lt, get_or, take, refl, sym, ap, ◌∙◌, arith, add-one}
use Rattle.std.proofs.Math.Seq.{take-suc}
use Rattle.std.proofs.lemmas.Bool.{cases_lt, le-leb, le-ltb, lt-leb, lt-ltb}
use Rattle.mcs_drive.specs.TrackedMachine.{TrackedMachine}
use Rattle.mcs_check.specs.declared.conditions.Condition.{Condition}
use Rattle.mcs_check.specs.declared.conditions.Condition.TheVariants.{Compare}
use Rattle.mcs_check.specs.Conditions.{are_met, is_met, meets_none, fewer_marks_seen}
use Rattle.mcs_check.proofs.Limiting.{and-assoc, meets_none-append}

-- true if no list in `never_lists` is met, and no list in `opens` is met before `n` marks were seen
abbrev pub opens_after_marks : List (List Condition) → List (List Condition) → ℕ → TrackedMachine → Bool
opens_after_marks never_lists opens n s = meets_none never_lists s && not (not (meets_none opens s) && nat_lt s.2.seen n)

-- ---- the conditions

and-true : (a : Bool) → (a && true) ≡ a
and-true true = refl
and-true false = refl

are_met-append_condition : (s : TrackedMachine) (cs : List Condition) (c : Condition) → are_met s (cs ++ c ∷ []) ≡ (are_met s cs && is_met s c)
are_met-append_condition s [] c = and-true (is_met s c)
are_met-append_condition s (x ∷ cs) c = ap (λ b. is_met s x && b) (are_met-append_condition s cs c) ∙ sym (and-assoc (is_met s x) (are_met s cs) (is_met s c))

is_met-fewer_marks_seen : (n : ℕ) (s : TrackedMachine) → 0 < n → is_met s (Compare (fewer_marks_seen n)) ≡ nat_lt s.2.seen n
is_met-fewer_marks_seen n s some =
    let least = le-leb 0 s.2.seen (omega arith) in
    elim (cases_lt s.2.seen n) [
      | inl few ↦ rw (least, le-leb s.2.seen (n - 1) (omega arith), lt-ltb s.2.seen n few) refl
      | inr all ↦ rw (least, lt-leb s.2.seen (n - 1) (omega arith), le-ltb s.2.seen n all) refl
    ]

-- ---- the lists

-- The requirement with one more list in `opens`:
--
-- - `a`: no list that must never be met is met
-- - `k`: no earlier list in `opens` is met
-- - `m`: the new list is met
-- - `f`: fewer marks were seen than required
requirement-with_next_open_list : (a k m f : Bool) → ((a && not (not k && f)) && (not (m && f) && true)) ≡ (a && not (not (k && (not m && true)) && f))
requirement-with_next_open_list false k m f = refl
requirement-with_next_open_list true true true true = refl
requirement-with_next_open_list true true true false = refl
requirement-with_next_open_list true true false f = refl
requirement-with_next_open_list true false true true = refl
requirement-with_next_open_list true false true false = refl
requirement-with_next_open_list true false false true = refl
requirement-with_next_open_list true false false false = refl

pub opened-none : (never_lists : List (List Condition)) (n : ℕ) (s : TrackedMachine) → meets_none never_lists s ≡ opens_after_marks never_lists [] n s
opened-none never_lists n s = sym (and-true (meets_none never_lists s))

pub opens_after_marks-with_next_open_list : (never_lists opens before after : List (List Condition)) (made : List Condition) (i n : ℕ) (s : TrackedMachine) → i < length opens → 0 < n →
    made ≡ get_or opens i [] ++ Compare (fewer_marks_seen n) ∷ [] → after ≡ before ++ made ∷ [] →
    meets_none before s ≡ opens_after_marks never_lists (take i opens) n s → meets_none after s ≡ opens_after_marks never_lists (take (i + 1) opens) n s
opens_after_marks-with_next_open_list never_lists opens before after made i n s within some is added h =
    let next = get_or opens i [] in
    let few = nat_lt s.2.seen n in
    let taken : take (i + 1) opens ≡ take i opens ++ next ∷ [] = ap (λ (k : ℕ). take k opens) (add-one i) ∙ take-suc opens i [] within in
    let met : are_met s made ≡ (are_met s next && few) =
    ap (are_met s) is ∙ are_met-append_condition s next (Compare (fewer_marks_seen n)) ∙ ap (λ b. are_met s next && b) (is_met-fewer_marks_seen n s some) in
    ap (λ (xs : List (List Condition)). meets_none xs s) added ∙ meets_none-append before (made ∷ []) s
    ∙ ap (λ b. b && (not (are_met s made) && true)) h
    ∙ ap (λ b. opens_after_marks never_lists (take i opens) n s && (not b && true)) met
    ∙ requirement-with_next_open_list (meets_none never_lists s) (meets_none (take i opens) s) (are_met s next) few
    ∙ ap (λ b. meets_none never_lists s && not (not b && few)) (sym (meets_none-append (take i opens) (next ∷ []) s))
    ∙ ap (λ (xs : List (List Condition)). opens_after_marks never_lists xs n s) (sym taken)

and-not_and_false : (a k f : Bool) → f ≡ false → a ≡ (a && not (k && f))
and-not_and_false true true f e = rw e refl
and-not_and_false true false f e = refl
and-not_and_false false k f e = refl

-- if no marks are required, only the lists in `never_lists` must not be met
pub opens_after_marks-without_marks : (never_lists opens : List (List Condition)) (n : ℕ) (s : TrackedMachine) → n ≡ 0 → meets_none never_lists s ≡ opens_after_marks never_lists opens n s
opens_after_marks-without_marks never_lists opens n s none = and-not_and_false (meets_none never_lists s) (not (meets_none opens s)) (nat_lt s.2.seen n) (le-ltb s.2.seen n (omega arith))
