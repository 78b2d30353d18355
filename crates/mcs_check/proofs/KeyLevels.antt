-- Keys that are set to given levels one at a time.
use Rattle.std.proofs.Common.{◌≡◌, ◌<◌, ◌≤◌, ◌+◌, ℕ, List, length, get_or, slice_set, sym, ◌∙◌, arith, below_more, get_or-set_same, get_or-set_other}
use Rattle.std.proofs.lemmas.List.{ext_get_or, length-set}

-- holds if there are `count` keys and the first `i` of them are at their levels
pub record AreFirstSet (count i : ℕ) (levels keys : List ℕ) : Type 0 where
  pub len : length keys ≡ count
  pub set : (k : ℕ) → k < i → get_or keys k 0 ≡ get_or levels k 0

pub are_first_set-for_no_keys : (count : ℕ) (levels keys : List ℕ) → length keys ≡ count → AreFirstSet count 0 levels keys
are_first_set-for_no_keys count levels keys len = record { len = len; set = λ k h. absurd (omega arith) }

-- if the first `i` keys are at their levels and key `i` is then set to its level, the first `i + 1`
-- keys are at their levels
pub are_first_set-after_next_key : (count i place level : ℕ) (levels keys : List ℕ) → i < count → place ≡ i → level ≡ get_or levels i 0 → AreFirstSet count i levels keys → AreFirstSet count (i + 1) levels (slice_set keys place level)
are_first_set-after_next_key count i place level levels keys within at level-is is = rw at (record {
  len = length-set keys i level ∙ is.len;
  set = λ k. below_more (λ k. get_or (slice_set keys i level) k 0 ≡ get_or levels k 0) i
      (λ k l. get_or-set_other keys i k level 0 (omega arith) ∙ is.set k l)
      (get_or-set_same keys i level 0 (let len = is.len in omega arith) ∙ level-is) k;
})

pub levels_are_equal-if_all_set : (count i : ℕ) (levels keys : List ℕ) → length levels ≡ count → count ≤ i → AreFirstSet count i levels keys → keys ≡ levels
levels_are_equal-if_all_set count i levels keys len end is =
    ext_get_or 0 keys levels (is.len ∙ sym len) (λ k l. is.set k (let same = is.len in omega arith))
