-- The value of a string of digits, read from left to right. After each digit, a value above 2^32 is
-- replaced by 2^32.
use Rattle.std.proofs.Common.{◌≡◌, ℕ, ◌+◌, ◌*◌, ◌<◌, ◌≤◌, min, true, ltb, List, [], ◌∷◌, ◌++◌, length, get_or, take, Some, None, refl, subst, ◌∙◌, arith, inl, inr, ◌⊎◌}
use Rattle.std.specs.Prelude.{option_map}
use Rattle.std.specs.List.{list_all}
use Rattle.std.specs.Char.{digit_value}
use Rattle.std.specs.Str.Parse.{digits_value, digits_value_after}
use Rattle.std.proofs.lemmas.Bool.{le-ltb, lt-ltb}
use Rattle.std.proofs.lemmas.List.{take_more, take_all}
use Rattle.std.proofs.lemmas.List.Folds.{list_all_at, list_all_more}
use Rattle.mcs_model.specs.Numerals.{value_of_digits}

digits_value_after-last_digit : (base n : ℕ) (ds : List ℕ) (c : ℕ) → digits_value_after base n (ds ++ c ∷ []) ≡ digits_value_after base n ds * base + digit_value c
digits_value_after-last_digit base n [] c = refl
digits_value_after-last_digit base n (d ∷ ds) c = digits_value_after-last_digit base (n * base + digit_value d) ds c

earlier_cap-redundant : (base v d : ℕ) → (base ≡ 10) ⊎ (base ≡ 16) → min (min v 4294967296 * base + d) 4294967296 ≡ min (v * base + d) 4294967296
earlier_cap-redundant base v d (inl e) = rw e (omega arith)
earlier_cap-redundant base v d (inr e) = rw e (omega arith)

-- holds if the first `i` characters are digits of the base, and `value` is their value, or 2^32 if
-- their value is above 2^32
pub record IsValueOfFirstDigits (base value i : ℕ) (ds : List ℕ) : Type 0 where
  pub each : list_all (λ c. ltb (digit_value c) base) (take i ds) ≡ true
  pub capped_value : value ≡ min (digits_value base (take i ds)) 4294967296

pub value_with_next_digit : (base value i : ℕ) (ds : List ℕ) → (base ≡ 10) ⊎ (base ≡ 16) → i < length ds → digit_value (get_or ds i 0) < base → IsValueOfFirstDigits base value i ds
    → IsValueOfFirstDigits base (min (value * base + digit_value (get_or ds i 0)) 4294967296) (i + 1) ds
value_with_next_digit base value i ds ten lt small so_far = record {
  each = list_all_more (λ c. ltb (digit_value c) base) ds i 0 lt ∙ rw (so_far.each, lt-ltb _ _ small) refl;
  capped_value = rw (so_far.capped_value, take_more ds i 0 lt, digits_value_after-last_digit base 0 (take i ds) (get_or ds i 0)) (earlier_cap-redundant base (digits_value base (take i ds)) (digit_value (get_or ds i 0)) ten);
}

pub no_value-with_non_digit : (base i : ℕ) (ds : List ℕ) → i < length ds → base ≤ digit_value (get_or ds i 0) → value_of_digits base ds ≡ None
no_value-with_non_digit base i [] lt big = refl
no_value-with_non_digit base i (d ∷ ds) lt big = rw (list_all_at (λ c. ltb (digit_value c) base) (d ∷ ds) i 0 lt (le-ltb _ _ big)) refl

pub value_of_all_digits : (base value i : ℕ) (ds : List ℕ) → 0 < length ds → length ds ≤ i → IsValueOfFirstDigits base value i ds → Some value ≡ option_map (λ n. min n 4294967296) (value_of_digits base ds)
value_of_all_digits base value i [] some all so_far = absurd (omega arith)
value_of_all_digits base value i (d ∷ ds) some all so_far =
    let cut : take i (d ∷ ds) ≡ d ∷ ds = take_all i (d ∷ ds) all in
    rw (rw cut at so_far.each, so_far.capped_value, cut) refl

pub value_with_digit_read : (base value i : ℕ) (ds : List ℕ) (x d v : ℕ) → (base ≡ 10) ⊎ (base ≡ 16) → i < length ds → x ≡ get_or ds i 0 → digit_value x < base → d ≡ digit_value x → v ≡ min (value * base + d) 4294967296 → IsValueOfFirstDigits base value i ds → IsValueOfFirstDigits base v (i + 1) ds
value_with_digit_read base value i ds x d v ten lt read small is capped so_far =
    rw (capped, is, read) (value_with_next_digit base value i ds ten lt (subst (λ (k : ℕ). digit_value k < base) read small) so_far)
