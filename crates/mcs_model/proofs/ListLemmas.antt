-- Lemmas about ranges, and about elements and tails of lists.
use Rattle.std.proofs.Common.{◌≡◌, ℕ, zero, suc, ◌+◌, ◌-◌, ◌<◌, ◌≤◌, Bool, true, false, inl, inr, List, [], ◌∷◌, ◌++◌, length, get_or, take, drop, find, Some, ap, ◌∙◌, arith}
use Rattle.std.specs.List.{list_any, range_with_len}
use Rattle.std.proofs.lemmas.Bool.{cases_Bool, cases_eq}
use Rattle.std.proofs.lemmas.List.{length-drop, take_all}
use Rattle.std.proofs.lemmas.List.Folds.{list_any_at}

-- if no element of the list satisfies `p`, the element at index `i` does not satisfy `p`
pub test_false-if_list_any_false : {X : Type 0} (p : X → Bool) (xs : List X) (i : ℕ) (d : X) → list_any p xs ≡ false → i < length xs → p (get_or xs i d) ≡ false
test_false-if_list_any_false p xs i d none l = elim (cases_Bool (p (get_or xs i d))) [ inl y ↦ absurd (let t = list_any_at p xs i d l y in cc) | inr n ↦ n ]

-- the range of `n + 1` numbers from `a` is the range of `n` numbers from `a`, followed by `a + n`
pub range-one-more : (a n : ℕ) → range_with_len a (suc n) ≡ range_with_len a n ++ (a + n) ∷ []
range-one-more a zero = ap (λ (k : ℕ). k ∷ []) (omega arith)
range-one-more a (suc n) =
    let e : a + 1 + n ≡ a + suc n = omega arith in
    ap (λ (l : List ℕ). a ∷ l) (range-one-more (a + 1) n ∙ ap (λ (k : ℕ). range_with_len (a + 1) n ++ k ∷ []) e)

-- `find` gives `k` if `k` is in the range and satisfies `p`, and no number below `k` satisfies `p`
pub find_at : (p : ℕ → Bool) (a n k : ℕ) → a ≤ k → k < a + n → ((j : ℕ) → j < k → p j ≡ false) → p k ≡ true → find p (range_with_len a n) ≡ Some k
find_at p a zero k l h before here = absurd (omega arith)
find_at p a (suc n) k l h before here =
    elim (cases_eq a k) [
      | inl e ↦ (let t : p a ≡ true = ap p e ∙ here in rw t (ap Some e))
      | inr ne ↦ (let t : p a ≡ false = before a (omega arith) in rw t (find_at p (a + 1) n k (omega arith) (omega arith) before here))
    ]

-- the slice `&xs[at..]`, which contracts write as `take (length xs - at) (drop at xs)`, is
-- `drop at xs`
pub take_rest-unchanged : {X : Type 0} (at : ℕ) (xs : List X) → take (length xs - at) (drop at xs) ≡ drop at xs
take_rest-unchanged at xs = take_all (length xs - at) (drop at xs) (omega (arith, length-drop at xs))
