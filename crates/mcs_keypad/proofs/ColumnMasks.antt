-- Lemmas about column masks: bytes in which bit `j` is the result of a test of column `j`.
use Rattle.std.proofs.Common.{◌≡◌, ◌≢◌, ℕ, ◌+◌, ◌*◌, ◌%◌, ◌^◌, ◌<◌, zero, suc, Bool, true, false, ◌&&◌, ◌||◌, inl, inr, cond, max, min, nat_lt, refl, sym, ap, ◌∙◌, arith, add-one, zero-add, bit_or, bit_and, w8}
use Rattle.std.specs.Int.{bit_at}
use Rattle.std.specs.List.{range_with_len, list_any}
use Rattle.std.proofs.lemmas.Bool.{cases_eq, cases_lt, lt-ltb, le-ltb, ltb-true, cases_Bool}
use Rattle.std.proofs.lemmas.List.Folds.{list_any_at}
use Rattle.std.proofs.lemmas.List.FromFn.{length-range_with_len, get_or-range_with_len}
use Rattle.std.proofs.lemmas.Nat.Bits.{bit_at_or, bit_at_and, bit_at-zero, bit_at_set_same, bit_at_set_other, same_from_bits}
use Rattle.std.proofs.Math.Bool.{and-false, or_assoc, or_comm}
use Rattle.mcs_keypad.specs.Keys.{IsColumnMask}

abbrev bit_of_bool : Bool → ℕ
bit_of_bool b = cond b 1 0

or-distributes : (l p q : Bool) → max (bit_of_bool (l && p)) (bit_of_bool (l && q)) ≡ bit_of_bool (l && (p || q))
or-distributes true true true = refl
or-distributes true true false = refl
or-distributes true false true = refl
or-distributes true false false = refl
or-distributes false p q = refl

and-distributes : (l p q : Bool) → min (bit_of_bool (l && p)) (bit_of_bool (l && q)) ≡ bit_of_bool (l && (p && q))
and-distributes true true true = refl
and-distributes true true false = refl
and-distributes true false true = refl
and-distributes true false false = refl
and-distributes false p q = refl

pub mask-if_no_column_passes : (n : ℕ) → IsColumnMask 0 n (λ _. false)
mask-if_no_column_passes n = record { at = λ j. bit_at-zero j ∙ sym (ap bit_of_bool (and-false (nat_lt j n))) }

-- The column mask of zero columns is the byte 0.
pub mask-of_zero_columns : (p : ℕ → Bool) → IsColumnMask 0 0 p
mask-of_zero_columns p = record { at = λ j. bit_at-zero j ∙ sym (ap (λ b. bit_of_bool (b && p j)) (le-ltb j 0 (omega arith))) }

nat_lt-next_if_not_equal : (i k : ℕ) → i ≢ k → nat_lt i (k + 1) ≡ nat_lt i k
nat_lt-next_if_not_equal i k ne =
    elim (cases_lt i k) [
      | inl h ↦ lt-ltb i (k + 1) (omega arith) ∙ sym (lt-ltb i k h)
      | inr h ↦ le-ltb i (k + 1) (omega arith) ∙ sym (le-ltb i k h)
    ]

mask-unchanged_by_failing_column : (byte k : ℕ) (p : ℕ → Bool) → IsColumnMask byte k p → p k ≡ false → IsColumnMask byte (k + 1) p
mask-unchanged_by_failing_column byte k p x fails = record {
  at = λ i.
      elim (cases_eq i k) [
        | inl e ↦ x.at i ∙ ap (λ b. bit_of_bool (b && p i)) (le-ltb i k (omega arith)) ∙ sym (ap (λ b. bit_of_bool (nat_lt i (k + 1) && b)) (ap p e ∙ fails) ∙ ap bit_of_bool (and-false (nat_lt i (k + 1))))
        | inr ne ↦ x.at i ∙ ap (λ b. bit_of_bool (b && p i)) (sym (nat_lt-next_if_not_equal i k ne))
      ];
}

mask-with_bit_of_passing_column : (byte k : ℕ) (p : ℕ → Bool) → k < 8 → IsColumnMask byte k p → p k ≡ true → IsColumnMask (bit_or byte (1 * 2 ^ k % 256)) (k + 1) p
mask-with_bit_of_passing_column byte k p l x passes = record {
  at = λ i.
      elim (cases_eq i k) [
        | inl e ↦ ap (bit_at (bit_or byte (1 * 2 ^ k % 256))) e ∙ bit_at_set_same w8 byte k l ∙ sym (ap (λ b. bit_of_bool (b && p i)) (lt-ltb i (k + 1) (omega arith)) ∙ ap bit_of_bool (ap p e ∙ passes))
        | inr ne ↦ bit_at_set_other w8 byte k l i ne ∙ x.at i ∙ ap (λ b. bit_of_bool (b && p i)) (sym (nat_lt-next_if_not_equal i k ne))
      ];
}

-- If column `k` fails the test, the mask of the first `k` columns is also the mask of the first
-- `k + 1` columns.
pub next_mask-if_column_fails : (byte new k : ℕ) (p : ℕ → Bool) → new ≡ byte → IsColumnMask byte k p → p k ≡ false → IsColumnMask new (k + 1) p
next_mask-if_column_fails byte new k p same x fails = rw same (mask-unchanged_by_failing_column byte k p x fails)

-- If column `k` passes the test, setting bit `k` in the mask of the first `k` columns gives the
-- mask of the first `k + 1` columns.
pub next_mask-if_column_passes : (byte new k : ℕ) (p : ℕ → Bool) → k < 8 → new ≡ bit_or byte (1 * 2 ^ k % 256) → IsColumnMask byte k p → p k ≡ true → IsColumnMask new (k + 1) p
next_mask-if_column_passes byte new k p l same x passes = rw same (mask-with_bit_of_passing_column byte k p l x passes)

pub mask-of_bit_or : (a b n : ℕ) (p q : ℕ → Bool) → IsColumnMask a n p → IsColumnMask b n q → IsColumnMask (bit_or a b) n (λ j. p j || q j)
mask-of_bit_or a b n p q x y = record { at = λ j. bit_at_or a b j ∙ ap (λ u. max u (bit_at b j)) (x.at j) ∙ ap (max (bit_of_bool (nat_lt j n && p j))) (y.at j) ∙ or-distributes (nat_lt j n) (p j) (q j) }

zero-unless_both : (l b : Bool) → (l ≡ true → b ≡ false) → bit_of_bool (l && b) ≡ 0
zero-unless_both true b h = ap bit_of_bool (h refl)
zero-unless_both false b h = refl

bit_of_common_columns : (a b n : ℕ) (p q : ℕ → Bool) → IsColumnMask a n p → IsColumnMask b n q → (j : ℕ) → bit_at (bit_and a b) j ≡ bit_of_bool (nat_lt j n && (p j && q j))
bit_of_common_columns a b n p q x y j = bit_at_and a b j ∙ ap (λ u. min u (bit_at b j)) (x.at j) ∙ ap (min (bit_of_bool (nat_lt j n && p j))) (y.at j) ∙ and-distributes (nat_lt j n) (p j) (q j)

any-if_one_passes : (p : ℕ → Bool) (n j : ℕ) → j < n → p j ≡ true → list_any p (range_with_len 0 n) ≡ true
any-if_one_passes p n j l passes = list_any_at p (range_with_len 0 n) j 0 (let e = length-range_with_len 0 n in omega arith) (ap p (get_or-range_with_len 0 n j 0 l ∙ zero-add j) ∙ passes)

none-if_all_fail : (p : ℕ → Bool) (a n : ℕ) → ((j : ℕ) → j < a + n → p j ≡ false) → list_any p (range_with_len a n) ≡ false
none-if_all_fail p a zero h = refl
none-if_all_fail p a (suc n) h =
    let here : p a ≡ false = h a (omega arith) in
    let rest = none-if_all_fail p (a + 1) n (λ j l. h j (omega arith)) in
    rw (here, rest) refl

-- If two bytes have no bit in common, no column passes both tests.
pub no_common_column : (a b n : ℕ) (p q : ℕ → Bool) → IsColumnMask a n p → IsColumnMask b n q → bit_and a b ≡ 0 → list_any (λ j. p j && q j) (range_with_len 0 n) ≡ false
no_common_column a b n p q x y none =
    none-if_all_fail (λ j. p j && q j) 0 n (λ j l.
    elim (cases_Bool (p j && q j)) [
      | inr fails ↦ fails
      | inl passes ↦ absurd (let e : 0 ≡ 1 = sym (bit_at-zero j) ∙ ap (λ c. bit_at c j) (sym none) ∙ bit_of_common_columns a b n p q x y j ∙ ap (λ u. bit_of_bool (u && (p j && q j))) (lt-ltb j n (omega arith)) ∙ ap bit_of_bool passes in omega arith)
    ])

-- If two bytes have a bit in common, some column passes both tests.
pub some_common_column : (a b n : ℕ) (p q : ℕ → Bool) → IsColumnMask a n p → IsColumnMask b n q → bit_and a b ≢ 0 → list_any (λ j. p j && q j) (range_with_len 0 n) ≡ true
some_common_column a b n p q x y nonzero =
    elim (cases_Bool (list_any (λ j. p j && q j) (range_with_len 0 n))) [
      | inl passes ↦ passes
      | inr fails ↦ absurd (nonzero (same_from_bits (bit_and a b) 0 (λ j.
          bit_of_common_columns a b n p q x y j ∙ zero-unless_both (nat_lt j n) (p j && q j) (λ below.
          elim (cases_Bool (p j && q j)) [
            | inr out ↦ out
            | inl here ↦ absurd (let t = any-if_one_passes (λ i. p i && q i) n j (ltb-true j n below) here in cc)
          ]) ∙ sym (bit_at-zero j))))
    ]

-- If two tests agree on every column, they have the same column mask.
pub mask-of_equal_test : (b n : ℕ) (p q : ℕ → Bool) → ((j : ℕ) → p j ≡ q j) → IsColumnMask b n p → IsColumnMask b n q
mask-of_equal_test b n p q h x = record { at = λ j. x.at j ∙ ap (λ t. bit_of_bool (nat_lt j n && t)) (h j) }

any-of_range_with_last : (p : ℕ → Bool) (a n : ℕ) → list_any p (range_with_len a (suc n)) ≡ (list_any p (range_with_len a n) || p (a + n))
any-of_range_with_last p a zero = or_comm (p a) false ∙ ap p (let e : a ≡ a + 0 = omega arith in e)
any-of_range_with_last p a (suc n) =
    ap (λ t. p a || t) (any-of_range_with_last p (a + 1) n)
    ∙ sym (or_assoc (p a) (list_any p (range_with_len (a + 1) n)) (p (a + 1 + n)))
    ∙ ap (λ k. list_any p (range_with_len a (suc n)) || p k) (let e : a + 1 + n ≡ a + suc n = omega arith in e)

-- A test holds for some number below `n + 1` exactly when it holds for some number below `n`, or
-- for `n`.
pub any-below_next_number : (p : ℕ → Bool) (n : ℕ) → list_any p (range_with_len 0 (n + 1)) ≡ (list_any p (range_with_len 0 n) || p n)
any-below_next_number p n = ap (λ k. list_any p (range_with_len 0 k)) (add-one n) ∙ any-of_range_with_last p 0 n ∙ ap (λ k. list_any p (range_with_len 0 n) || p k) (zero-add n)
