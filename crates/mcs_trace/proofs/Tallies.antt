-- Counts of the instructions that a run begins.
use Rattle.std.proofs.Common.{◌≡◌, ℕ, suc, ◌+◌, ◌<◌, ◌≤◌, ◌&&◌, Bool, true, false, cond, List, [], ◌∷◌, ◌++◌, length, map, get_or, inl, inr, refl, sym, ap, ◌∙◌, arith, eqb, eq-eqb}
use Rattle.std.specs.List.{count_by, filter, range_with_len}
use Rattle.std.proofs.lemmas.Bool.{cases_eq}
use Rattle.std.proofs.lemmas.Bool.Decides.{nat_tests}
use Rattle.std.proofs.lemmas.List.{length-map, length-set, get_or-set_same, get_or-set_other, map-append}
use Rattle.std.proofs.lemmas.List.Elements.{filter-append}
use Rattle.std.proofs.lemmas.List.FromFn.{length-range_with_len}
use Rattle.std.proofs.lemmas.List.Sums.{sum_by-append, count_by-le-length}
use Rattle.mcs_model.specs.Running.{Machine}
use Rattle.mcs_model.proofs.ListLemmas.{range-one-more}
use Rattle.mcs_probe.specs.Forecast.{BegunInstruction, begins, instructions_begun_within, cycle_at}
use Rattle.mcs_trace.specs.RunCounts.{IsTally, incremented_if}

-- a list with the instruction that cycle `k` from `s` begins; empty if the cycle begins none
abbrev pub instruction_begun_at : Machine → ℕ → List BegunInstruction
instruction_begun_at s k = cond (begins (cycle_at s k)) (cycle_at s k ∷ []) []

-- `k + 1` cycles begin the instructions that the first `k` cycles begin, and then the instruction
-- that cycle `k` begins, if any
pub instructions_begun-in_one_more_cycle : (k : ℕ) (s : Machine) → instructions_begun_within (k + 1) s ≡ instructions_begun_within k s ++ instruction_begun_at s k
unfolding instructions_begun_within
instructions_begun-in_one_more_cycle k s =
    let longer_range : range_with_len 0 (k + 1) ≡ range_with_len 0 k ++ k ∷ [] = (let suc_is_plus_one : k + 1 ≡ suc k = omega arith in let zero_plus : 0 + k ≡ k = omega arith in ap (range_with_len 0) suc_is_plus_one ∙ range-one-more 0 k ∙ ap (λ (j : ℕ). range_with_len 0 k ++ j ∷ []) zero_plus) in
    ap (λ l. filter begins (map (cycle_at s) l)) longer_range
    ∙ ap (filter begins) (map-append (cycle_at s) (range_with_len 0 k) (k ∷ []))
    ∙ filter-append begins (map (cycle_at s) (range_with_len 0 k)) (cycle_at s k ∷ [])

length-filter : {X : Type 0} (p : X → Bool) (xs : List X) → length (filter p xs) ≤ length xs
length-filter p [] = omega arith
length-filter p (x ∷ xs) =
    let h = length-filter p xs in
    elim (p x) as (λ v. length (cond v (x ∷ filter p xs) (filter p xs)) ≤ length (x ∷ xs)) [ true ↦ omega arith | false ↦ omega arith ]

-- `k` cycles begin at most `k` instructions
pub instruction_count-at_most_cycles : (k : ℕ) (s : Machine) → length (instructions_begun_within k s) ≤ k
unfolding instructions_begun_within
instruction_count-at_most_cycles k s =
    let f = length-filter begins (map (cycle_at s) (range_with_len 0 k)) in
    let m = length-map (range_with_len 0 k) (cycle_at s) in
    let r = length-range_with_len 0 k in
    omega arith

-- 1 if `b` is true, otherwise 0
abbrev pub one-when : Bool → ℕ
one-when b = cond b 1 0

count_by-of_optional_instruction : (b x : Bool) (e : BegunInstruction) (p : BegunInstruction → Bool) → p e ≡ x → count_by p (cond b (e ∷ []) []) ≡ one-when (b && x)
count_by-of_optional_instruction true true e p h = rw h refl
count_by-of_optional_instruction true false e p h = rw h refl
count_by-of_optional_instruction false true e p h = refl
count_by-of_optional_instruction false false e p h = refl

-- Suppose that `m` cycles begin the instructions that `k` cycles begin, and then the instruction
-- that cycle `k` begins, if any. The count for `m` cycles is then 1 higher than the count for `k`
-- cycles if cycle `k` begins an instruction for which `p` is true. Otherwise the counts are equal.
pub count_by-in_one_more_cycle : (k m : ℕ) (s : Machine) (p : BegunInstruction → Bool) → instructions_begun_within m s ≡ instructions_begun_within k s ++ instruction_begun_at s k → count_by p (instructions_begun_within m s) ≡ count_by p (instructions_begun_within k s) + one-when (begins (cycle_at s k) && p (cycle_at s k))
count_by-in_one_more_cycle k m s p e =
    ap (count_by p) e
    ∙ sum_by-append (λ x. cond (p x) 1 0) (instructions_begun_within k s) (instruction_begun_at s k)
    ∙ ap (λ m. count_by p (instructions_begun_within k s) + m) (count_by-of_optional_instruction (begins (cycle_at s k)) (p (cycle_at s k)) (cycle_at s k) p refl)

pub count_by-at_most_cycles : (k : ℕ) (s : Machine) (p : BegunInstruction → Bool) → count_by p (instructions_begun_within k s) ≤ k
count_by-at_most_cycles k s p = let a = count_by-le-length p (instructions_begun_within k s) in let b = instruction_count-at_most_cycles k s in omega arith

-- `incremented_if` adds 1 to the number at index `place` if `b` is true, and changes no other
-- number
number-after_increment : (xs : List ℕ) (b : Bool) (place at : ℕ) → place < length xs → get_or (incremented_if xs b place) at 0 ≡ get_or xs at 0 + one-when (b && eqb place at)
number-after_increment xs false place at l = omega arith
number-after_increment xs true place at l =
    elim (cases_eq at place) [
      | inl e ↦ (let t : eqb place at ≡ true = eq-eqb place at (sym e) in rw (t, e) (get_or-set_same xs place (get_or xs place 0 + 1) 0 l))
      | inr ne ↦ (let f : eqb place at ≡ false = grind (arith, nat_tests) in rw f (get_or-set_other xs place at (get_or xs place 0 + 1) 0 ne ∙ omega arith))
    ]

length-incremented_if : (xs : List ℕ) (b : Bool) (place : ℕ) → length (incremented_if xs b place) ≡ length xs
length-incremented_if xs true place = length-set xs place (get_or xs place 0 + 1)
length-incremented_if xs false place = refl

-- Suppose that `g` equals `f`, except that `g` is 1 higher at `place` if `b` is true. If `xs` is a
-- tally of `f`, `incremented_if` then gives a tally of `g`.
pub tally-after_increment : (xs : List ℕ) (b : Bool) (place : ℕ) (f g : ℕ → ℕ) → place < 4096 → IsTally xs f → ((at : ℕ) → at < 4096 → g at ≡ f at + one-when (b && eqb place at)) → IsTally (incremented_if xs b place) g
tally-after_increment xs b place f g l t more = record {
  len = length-incremented_if xs b place ∙ t.len;
  each = λ at h. number-after_increment xs b place at (let len = t.len in omega arith) ∙ ap (λ m. m + one-when (b && eqb place at)) (t.each at h) ∙ sym (more at h);
}
