-- Lemmas about the ordered lists of breakpoints and watches, and the flags of the breakpoint
-- addresses.
use Rattle.std.proofs.Common.{◌≡◌, ◌≢◌, ℕ, ◌+◌, ◌<◌, ◌≤◌, zero, suc, Bool, true, false, ◌||◌, not, cond, inl, inr, List, [], ◌∷◌, ◌++◌, length, take, get_or, slice_set, get_or-set_other, replicate, refl, sym, ap, subst, length-take-le, ◌∙◌, arith, eqb, eq-eqb, nat_lt}
use Rattle.std.proofs.lemmas.Grind.{get_or-set_at}
use Rattle.std.proofs.lemmas.Bool.{cases_eq, cases_lt, lt-ltb, le-ltb, eqb-true, ne_eqb, or_parts}
use Rattle.std.proofs.lemmas.Bool.Decides.{nat_tests}
use Rattle.std.proofs.lemmas.List.{length-set, length-replicate, get_or-replicate, get_or-take, take_more}
use Rattle.std.proofs.lemmas.Map.Views.{any-filter_same}
use Rattle.std.proofs.lemmas.List.Kept.{IsStrictlyIncreasing-filter}
use Rattle.std.proofs.lemmas.List.Filters.{length-filter_both}
use Rattle.std.proofs.lemmas.List.Elements.{All-filter}
use Rattle.std.specs.Prelude.{All}
use Rattle.std.specs.List.{insert}
use Rattle.std.specs.List.Sorted.{IsStrictlyIncreasing}
use Rattle.mcs_model.specs.Listed.{is_listed, insert_in_order, with_listed, without_listed}
use Rattle.mcs_bench.specs.BreakpointSet.{HasFlags, AreRamIndices}

-- inserting `at` at the index of the first greater number is the same as inserting `at` in order
pub insert-at-first-greater : (xs : List ℕ) (k at : ℕ) → k ≤ length xs → ((j : ℕ) → j < k → get_or xs j 0 ≤ at) → (k < length xs → at < get_or xs k 0) → insert xs k at ≡ insert_in_order xs at
insert-at-first-greater [] zero at l below above = refl
insert-at-first-greater [] (suc k) at l below above = absurd (omega arith)
insert-at-first-greater (x ∷ xs) zero at l below above = rw (lt-ltb at x (above (omega arith))) refl
insert-at-first-greater (x ∷ xs) (suc k) at l below above =
    rw (le-ltb at x (below 0 (omega arith))) (ap (λ ys. x ∷ ys) (insert-at-first-greater xs k at (omega arith) (λ j h. below (suc j) (omega arith)) (λ h. above (omega arith))))

or_swap : (a b c : Bool) → (a || (b || c)) ≡ (b || (a || c))
or_swap true true c = refl
or_swap true false c = refl
or_swap false b c = refl

is_listed-after-insert : (xs : List ℕ) (at a : ℕ) → is_listed (insert_in_order xs at) a ≡ (eqb at a || is_listed xs a)
is_listed-after-insert [] at a = refl
is_listed-after-insert (x ∷ xs) at a =
    elim (nat_lt at x) as (λ v. is_listed (cond v (at ∷ x ∷ xs) (x ∷ insert_in_order xs at)) a ≡ (eqb at a || is_listed (x ∷ xs) a)) [
      | true ↦ refl
      | false ↦ ap (λ t. eqb x a || t) (is_listed-after-insert xs at a) ∙ or_swap (eqb x a) (eqb at a) (is_listed xs a)
    ]

-- if `x` is below the first number of a strictly increasing list, `x` followed by the list is
-- strictly increasing
rising-cons : (x : ℕ) (xs : List ℕ) → (0 < length xs → x < get_or xs 0 0) → IsStrictlyIncreasing xs → IsStrictlyIncreasing (x ∷ xs)
rising-cons x xs above r zero h = above (omega arith)
rising-cons x xs above r (suc k) h = let e : suc k + 1 ≡ suc (k + 1) = omega arith in rw e (r k (omega arith))

rising-tail : (x : ℕ) (xs : List ℕ) → IsStrictlyIncreasing (x ∷ xs) → IsStrictlyIncreasing xs
rising-tail x xs r k h = let e : suc k + 1 ≡ suc (k + 1) = omega arith in rw e at (r (suc k) (omega arith))

below-head-after-insert : (x at : ℕ) (xs : List ℕ) → x < at → (0 < length xs → x < get_or xs 0 0) → x < get_or (insert_in_order xs at) 0 0
below-head-after-insert x at [] lt above = lt
below-head-after-insert x at (y ∷ ys) lt above =
    elim (nat_lt at y) as (λ v. x < get_or (cond v (at ∷ y ∷ ys) (y ∷ insert_in_order ys at)) 0 0) [
      | true ↦ lt
      | false ↦ above (omega arith)
    ]

lt-if-le-and-not-equal : (x at : ℕ) → x ≤ at → eqb x at ≡ false → x < at
lt-if-le-and-not-equal x at le ne = grind (arith, nat_tests)

rising-after-insert : (xs : List ℕ) (at : ℕ) → is_listed xs at ≡ false → IsStrictlyIncreasing xs → IsStrictlyIncreasing (insert_in_order xs at)
rising-after-insert [] at off r = λ k h. absurd (omega arith)
rising-after-insert (x ∷ xs) at off r =
    let apart = or_parts (eqb x at) (is_listed xs at) off in
    elim (cases_lt at x) [
      | inl l ↦ rw (lt-ltb at x l) (rising-cons at (x ∷ xs) (λ _. l) r)
      | inr le ↦
          rw (le-ltb at x le) (rising-cons x (insert_in_order xs at) (λ _. below-head-after-insert x at xs (lt-if-le-and-not-equal x at le apart.0) (λ h. r 0 (omega arith)))
          (rising-after-insert xs at apart.1 (rising-tail x xs r)))
    ]

pub flags-of-empty-set : HasFlags (replicate 4096 false) []
flags-of-empty-set = record { rising = λ k h. absurd (omega arith); flag_count = length-replicate 4096 false; at = λ a h. get_or-replicate 4096 a false false h }

pub flags-after-breakpoint-set : (flags : List Bool) (xs : List ℕ) (i at : ℕ) → i ≡ at → at < 4096 → is_listed xs at ≡ false → HasFlags flags xs → HasFlags (slice_set flags i true) (insert_in_order xs at)
flags-after-breakpoint-set flags xs i at e l off m = rw e (record {
  rising = rising-after-insert xs at off m.rising;
  flag_count = length-set flags at true ∙ m.flag_count;
  at = λ a h.
      elim (cases_eq a at) [
        | inl same ↦ get_or-set_at flags at a true false same (let w = m.flag_count in omega arith) ∙ sym (is_listed-after-insert xs at a ∙ ap (λ t. t || is_listed xs a) (eq-eqb at a (sym same)))
        | inr other ↦ get_or-set_other flags at a true false other ∙ m.at a h ∙ sym (is_listed-after-insert xs at a ∙ ap (λ t. t || is_listed xs a) (ne_eqb at a (λ s. other (sym s))))
      ];
})

removed-is-unlisted : (xs : List ℕ) (at a : ℕ) → a ≡ at → is_listed (without_listed xs at) a ≡ false
removed-is-unlisted xs at a e = any-filter_same (λ x. eqb x a) (λ x. not (eqb x at)) false (λ x h. ap (λ t. not t) (eq-eqb x at (eqb-true x a h ∙ e))) xs

others-listed-as-before : (xs : List ℕ) (at a : ℕ) → a ≢ at → is_listed (without_listed xs at) a ≡ is_listed xs a
others-listed-as-before xs at a ne = any-filter_same (λ x. eqb x a) (λ x. not (eqb x at)) true (λ x h. ap (λ t. not t) (ne_eqb x at (λ e. ne (sym (eqb-true x a h) ∙ e)))) xs

pub flags-after-breakpoint-clear : (flags : List Bool) (xs : List ℕ) (i at : ℕ) → i ≡ at → at < 4096 → HasFlags flags xs → HasFlags (slice_set flags i false) (without_listed xs at)
flags-after-breakpoint-clear flags xs i at e l m = rw e (record {
  rising = IsStrictlyIncreasing-filter (λ a. not (eqb a at)) xs m.rising;
  flag_count = length-set flags at false ∙ m.flag_count;
  at = λ a h.
      elim (cases_eq a at) [
        | inl same ↦ get_or-set_at flags at a false false same (let w = m.flag_count in omega arith) ∙ sym (removed-is-unlisted xs at a same)
        | inr other ↦ get_or-set_other flags at a false false other ∙ m.at a h ∙ sym (others-listed-as-before xs at a other)
      ];
})

-- ---- breakpoints set in ascending order of address

unlisted-if-all-below : (xs : List ℕ) (v : ℕ) → ((k : ℕ) → k < length xs → get_or xs k 0 < v) → is_listed xs v ≡ false
unlisted-if-all-below [] v h = refl
unlisted-if-all-below (x ∷ xs) v h =
    let first = h 0 (omega arith) in
    rw (ne_eqb x v (λ e. absurd (omega arith))) (unlisted-if-all-below xs v (λ k l. h (suc k) (omega arith)))

insert-above-all-appends : (xs : List ℕ) (v : ℕ) → ((k : ℕ) → k < length xs → get_or xs k 0 < v) → insert_in_order xs v ≡ xs ++ v ∷ []
insert-above-all-appends [] v h = refl
insert-above-all-appends (x ∷ xs) v h =
    let first = h 0 (omega arith) in
    rw (le-ltb v x (omega arith)) (ap (λ ys. x ∷ ys) (insert-above-all-appends xs v (λ k l. h (suc k) (omega arith))))

element-lt-if-rising : (xs : List ℕ) → IsStrictlyIncreasing xs → (j k : ℕ) → j < k → k < length xs → get_or xs j 0 < get_or xs k 0
element-lt-if-rising xs r j zero l h = absurd (omega arith)
element-lt-if-rising xs r j (suc k) l h =
    let e : k + 1 ≡ suc k = omega arith in
    let last = rw e at (r k (omega arith)) in
    elim (cases_eq j k) [
      | inl same ↦ subst (λ i. get_or xs i 0 < get_or xs (suc k) 0) (sym same) last
      | inr ne ↦ (let before = element-lt-if-rising xs r j k (omega arith) (omega arith) in omega arith)
    ]

pub with_listed-next-element : (xs : List ℕ) (i : ℕ) → IsStrictlyIncreasing xs → i < length xs → with_listed (take i xs) (get_or xs i 0) ≡ take (i + 1) xs
with_listed-next-element xs i r l =
    let len = length-take-le i xs (omega arith) in
    let below = λ (k : ℕ) (h : k < length (take i xs)). subst (λ n. n < get_or xs i 0) (sym (get_or-take i xs k 0 (omega arith))) (element-lt-if-rising xs r k i (omega arith) l) in
    rw (unlisted-if-all-below (take i xs) (get_or xs i 0) below) (insert-above-all-appends (take i xs) (get_or xs i 0) below ∙ sym (take_more xs i 0 l))

-- ---- indices of watched RAM nibbles

all-below-cons : (limit x : ℕ) (xs : List ℕ) → x < limit → All (λ a. a < limit) xs → All (λ a. a < limit) (x ∷ xs)
all-below-cons limit x xs l all zero d h = l
all-below-cons limit x xs l all (suc i) d h = all i d (omega arith)

all-below-after-insert : (limit : ℕ) (xs : List ℕ) (at : ℕ) → at < limit → All (λ a. a < limit) xs → All (λ a. a < limit) (insert_in_order xs at)
all-below-after-insert limit [] at l all zero d h = l
all-below-after-insert limit [] at l all (suc i) d h = absurd (omega arith)
all-below-after-insert limit (x ∷ xs) at l all i d h =
    elim (nat_lt at x) as (λ v. i < length (cond v (at ∷ x ∷ xs) (x ∷ insert_in_order xs at)) → get_or (cond v (at ∷ x ∷ xs) (x ∷ insert_in_order xs at)) i d < limit) [
      | true ↦ λ k. all-below-cons limit at (x ∷ xs) l all i d k
      | false ↦ λ k. all-below-cons limit x (insert_in_order xs at) (all 0 d (omega arith)) (all-below-after-insert limit xs at l (λ j e m. all (suc j) e (omega arith))) i d k
    ] h

length-after-insert : (xs : List ℕ) (at : ℕ) → length (insert_in_order xs at) ≡ suc (length xs)
length-after-insert [] at = refl
length-after-insert (x ∷ xs) at =
    elim (nat_lt at x) as (λ v. length (cond v (at ∷ x ∷ xs) (x ∷ insert_in_order xs at)) ≡ suc (suc (length xs))) [
      | true ↦ refl
      | false ↦ ap suc (length-after-insert xs at)
    ]

pub ram-indices-with_listed : (xs : List ℕ) (at : ℕ) → at < 2048 → (is_listed xs at || nat_lt (length xs) 8) ≡ true → AreRamIndices xs → AreRamIndices (with_listed xs at)
ram-indices-with_listed xs at l room few =
    elim (is_listed xs at) as (λ v. (v || nat_lt (length xs) 8) ≡ true → AreRamIndices (cond v xs (insert_in_order xs at))) [
      | true ↦ λ _. few
      | false ↦ λ free. record { few = (let long = length-after-insert xs at in let less : length xs < 8 = grind (arith, nat_tests, free) in omega arith); within = all-below-after-insert 2048 xs at l few.within }
    ] room

pub ram-indices-without_listed : (xs : List ℕ) (at : ℕ) → AreRamIndices xs → AreRamIndices (without_listed xs at)
ram-indices-without_listed xs at few = record {
  few = (let both = length-filter_both (λ (a : ℕ). not (eqb a at)) (λ (a : ℕ). not (not (eqb a at))) (λ _. refl) xs in let f = few.few in omega arith);
  within = All-filter (λ a. not (eqb a at)) (λ a. a < 2048) xs few.within;
}

pub room-if-fewer-than-eight : (b : Bool) (n : ℕ) → n < 8 → (b || nat_lt n 8) ≡ true
room-if-fewer-than-eight true n l = refl
room-if-fewer-than-eight false n l = lt-ltb n 8 l
