-- Lemmas about a list that a loop fills element by element.
use Rattle.std.proofs.Common.{◌≡◌, ◌≢◌, ℕ, ◌+◌, ◌<◌, ◌≤◌, inl, inr, List, length, get_or, slice_set, refl, sym, ap, ◌∙◌, arith, get_or-set_other}
use Rattle.std.proofs.lemmas.Grind.{get_or-set_at, same_number_lists}
use Rattle.std.proofs.lemmas.Bool.{cases_eq}
use Rattle.std.proofs.lemmas.List.{length-set}

-- holds if the first `i` elements of `now` equal those of `goal`, and the others equal those of
-- `old`
pub record IsFilled (old goal : List ℕ) (i : ℕ) (now : List ℕ) : Type 0 where
  pub len : length now ≡ length goal
  pub done : (k : ℕ) → k < i → get_or now k 0 ≡ get_or goal k 0
  pub rest : (k : ℕ) → i ≤ k → get_or now k 0 ≡ get_or old k 0

pub filled-at-start : (old goal : List ℕ) → length old ≡ length goal → IsFilled old goal 0 old
filled-at-start old goal l = record { len = l; done = λ k h. absurd (omega arith); rest = λ k h. refl }

-- setting element `i` to element `i` of `goal` extends the filled part by one element
pub filled-after-set : (old goal now : List ℕ) (i place n : ℕ) → i < length goal → place ≡ i → n ≡ get_or goal i 0 → IsFilled old goal i now → IsFilled old goal (i + 1) (slice_set now place n)
filled-after-set old goal now i place n l at is f = rw (at, is) (record {
  len = length-set now i (get_or goal i 0) ∙ f.len;
  done = λ k h.
      elim (cases_eq k i) [
        | inl e ↦ get_or-set_at now i k (get_or goal i 0) 0 e (let len = f.len in omega arith) ∙ ap (λ j. get_or goal j 0) (sym e)
        | inr ne ↦ get_or-set_other now i k (get_or goal i 0) 0 ne ∙ f.done k (omega arith)
      ];
  rest = λ k h. let ne : k ≢ i = omega arith in get_or-set_other now i k (get_or goal i 0) 0 ne ∙ f.rest k (omega arith);
})

-- if element `i` of `old` already equals element `i` of `goal`, the filled part also includes
-- element `i`
pub filled-if-element-kept : (old goal now : List ℕ) (i : ℕ) → get_or old i 0 ≡ get_or goal i 0 → IsFilled old goal i now → IsFilled old goal (i + 1) now
filled-if-element-kept old goal now i same f = record {
  len = f.len;
  done = λ k h.
      elim (cases_eq k i) [
        | inl e ↦ ap (λ j. get_or now j 0) e ∙ f.rest i (omega arith) ∙ same ∙ ap (λ j. get_or goal j 0) (sym e)
        | inr ne ↦ f.done k (omega arith)
      ];
  rest = λ k h. f.rest k (omega arith);
}

pub filled-list-is-goal : (old goal now : List ℕ) (i : ℕ) → length goal ≤ i → IsFilled old goal i now → now ≡ goal
filled-list-is-goal old goal now i l f = same_number_lists now goal f.len (λ k h. f.done k (let len = f.len in omega arith))
