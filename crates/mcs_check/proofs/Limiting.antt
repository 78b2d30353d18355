-- The limit of a stopwatch, as conditions on the three bytes of the number of cycles that it shows.
use Rattle.std.proofs.Common.{◌≡◌, ◌<◌, ◌/◌, ◌%◌, ◌++◌, ℕ, inl, inr, Bool, true, false, not, ◌&&◌, List, [], ◌∷◌, nat_le, refl, sym, ap, ◌∙◌, arith}
use Rattle.std.proofs.lemmas.Bool.{cases_order, le-leb, lt-leb}
use Rattle.mcs_drive.specs.TrackedMachine.{TrackedMachine}
use Rattle.mcs_check.specs.declared.conditions.Condition.{Condition}
use Rattle.mcs_check.specs.declared.conditions.Condition.TheVariants.{Compare}
use Rattle.mcs_check.specs.Conditions.{are_met, elapsed_byte_comparison, meets_none}

pub and-assoc : (a b c : Bool) → ((a && b) && c) ≡ (a && (b && c))
and-assoc true b c = refl
and-assoc false b c = refl

-- no list of `xs ++ ys` is met if and only if no list of `xs` and no list of `ys` is met
pub meets_none-append : (xs ys : List (List Condition)) (s : TrackedMachine) → meets_none (xs ++ ys) s ≡ (meets_none xs s && meets_none ys s)
meets_none-append [] ys s = refl
meets_none-append (x ∷ xs) ys s = ap (λ b. not (are_met s x) && b) (meets_none-append xs ys s) ∙ sym (and-assoc (not (are_met s x)) (meets_none xs s) (meets_none ys s))

-- appending three lists one at a time gives the same as appending them at once
pub append-three : (xs : List (List Condition)) (a b c : List Condition) → ((xs ++ a ∷ []) ++ b ∷ []) ++ c ∷ [] ≡ xs ++ a ∷ b ∷ c ∷ []
append-three [] a b c = refl
append-three (x ∷ xs) a b c = ap (λ (ys : List (List Condition)). x ∷ ys) (append-three xs a b c)

-- ---- the bytes

-- True if the number with the bytes `a`, `b` and `c` is not above the limit with the bytes `x`, `y`
-- and `z`. The bytes are compared as the conditions of `add_limit` compare them.
abbrev is_within_limit_by_bytes : ℕ → ℕ → ℕ → ℕ → ℕ → ℕ → Bool
is_within_limit_by_bytes a b c x y z =
    not (not (nat_le 0 a && nat_le a x) && true)
    && (not ((nat_le x a && nat_le a x) && (not (nat_le 0 b && nat_le b y) && true))
    && (not ((nat_le x a && nat_le a x) && ((nat_le y b && nat_le b y) && (not (nat_le 0 c && nat_le c z) && true))) && true))

-- holds if `less` is the result of a ≤ x, and `more` is the result of x ≤ a
record Order (a x : ℕ) (less more : Bool) : Type 0 where
  below : nat_le a x ≡ less
  above : nat_le x a ≡ more

order-lt : (a x : ℕ) → a < x → Order a x true false
order-lt a x h = record { below = le-leb a x (omega arith); above = lt-leb x a h }

order-eq : (a x : ℕ) → a ≡ x → Order a x true true
order-eq a x h = record { below = le-leb a x (omega arith); above = le-leb x a (omega arith) }

order-gt : (a x : ℕ) → x < a → Order a x false true
order-gt a x h = record { below = lt-leb a x h; above = le-leb x a (omega arith) }

within_limit-if_first_byte_less : (a b c x y z : ℕ) → Order a x true false → is_within_limit_by_bytes a b c x y z ≡ true
within_limit-if_first_byte_less a b c x y z o = (let z0 = le-leb 0 a (omega arith) in rw (z0, o.below, o.above) refl)

beyond_limit-if_first_byte_greater : (a b c x y z : ℕ) → Order a x false true → is_within_limit_by_bytes a b c x y z ≡ false
beyond_limit-if_first_byte_greater a b c x y z o = (let z0 = le-leb 0 a (omega arith) in rw (z0, o.below) refl)

within_limit-if_second_byte_less : (a b c x y z : ℕ) → Order a x true true → Order b y true false → is_within_limit_by_bytes a b c x y z ≡ true
within_limit-if_second_byte_less a b c x y z o p = (let z0 = le-leb 0 a (omega arith) in let z1 = le-leb 0 b (omega arith) in rw (z0, z1, o.below, o.above, p.below, p.above) refl)

beyond_limit-if_second_byte_greater : (a b c x y z : ℕ) → Order a x true true → Order b y false true → is_within_limit_by_bytes a b c x y z ≡ false
beyond_limit-if_second_byte_greater a b c x y z o p = (let z0 = le-leb 0 a (omega arith) in let z1 = le-leb 0 b (omega arith) in rw (z0, z1, o.below, o.above, p.below) refl)

within_limit-if_third_byte_not_greater : (a b c x y z : ℕ) (more : Bool) → Order a x true true → Order b y true true → Order c z true more → is_within_limit_by_bytes a b c x y z ≡ true
within_limit-if_third_byte_not_greater a b c x y z more o p q = (let z0 = le-leb 0 a (omega arith) in let z1 = le-leb 0 b (omega arith) in let z2 = le-leb 0 c (omega arith) in rw (z0, z1, z2, o.below, o.above, p.below, p.above, q.below) refl)

beyond_limit-if_third_byte_greater : (a b c x y z : ℕ) → Order a x true true → Order b y true true → Order c z false true → is_within_limit_by_bytes a b c x y z ≡ false
beyond_limit-if_third_byte_greater a b c x y z o p q = (let z0 = le-leb 0 a (omega arith) in let z1 = le-leb 0 b (omega arith) in let z2 = le-leb 0 c (omega arith) in rw (z0, z1, z2, o.below, o.above, p.below, p.above, q.below) refl)

is_within_limit_by_bytes-is_nat_le : (n m : ℕ) → is_within_limit_by_bytes (n / 65536) (n / 256 % 256) (n % 256) (m / 65536) (m / 256 % 256) (m % 256) ≡ nat_le n m
is_within_limit_by_bytes-is_nat_le n m =
    let a = n / 65536 in
    let b = n / 256 % 256 in
    let c = n % 256 in
    let x = m / 65536 in
    let y = m / 256 % 256 in
    let z = m % 256 in
    elim (cases_order a x) [
      | inr (inl h) ↦ within_limit-if_first_byte_less a b c x y z (order-lt a x h) ∙ sym (le-leb n m (omega arith))
      | inr (inr h) ↦ beyond_limit-if_first_byte_greater a b c x y z (order-gt a x h) ∙ sym (lt-leb n m (omega arith))
      | inl e ↦ elim (cases_order b y) [
        | inr (inl h) ↦ within_limit-if_second_byte_less a b c x y z (order-eq a x e) (order-lt b y h) ∙ sym (le-leb n m (omega arith))
        | inr (inr h) ↦ beyond_limit-if_second_byte_greater a b c x y z (order-eq a x e) (order-gt b y h) ∙ sym (lt-leb n m (omega arith))
        | inl f ↦ elim (cases_order c z) [
          | inr (inl h) ↦ within_limit-if_third_byte_not_greater a b c x y z false (order-eq a x e) (order-eq b y f) (order-lt c z h) ∙ sym (le-leb n m (omega arith))
          | inr (inr h) ↦ beyond_limit-if_third_byte_greater a b c x y z (order-eq a x e) (order-eq b y f) (order-gt c z h) ∙ sym (lt-leb n m (omega arith))
          | inl g ↦ within_limit-if_third_byte_not_greater a b c x y z true (order-eq a x e) (order-eq b y f) (order-eq c z g) ∙ sym (le-leb n m (omega arith))
        ]
      ]
    ]

-- ---- the conditions

-- Three lists of conditions. One of them is met if and only if the stopwatch shows more cycles than
-- the limit with the bytes `x`, `y` and `z`.
abbrev pub lists_beyond_limit : ℕ → ℕ → ℕ → List (List Condition)
lists_beyond_limit x y z =
    (Compare (elapsed_byte_comparison 0 0 x false) ∷ [])
    ∷ (Compare (elapsed_byte_comparison 0 x x true) ∷ Compare (elapsed_byte_comparison 1 0 y false) ∷ [])
    ∷ (Compare (elapsed_byte_comparison 0 x x true) ∷ Compare (elapsed_byte_comparison 1 y y true) ∷ Compare (elapsed_byte_comparison 2 0 z false) ∷ []) ∷ []

none_beyond_limit-is_nat_le : (limit : ℕ) (s : TrackedMachine) → meets_none (lists_beyond_limit (limit / 65536) (limit / 256 % 256) (limit % 256)) s ≡ nat_le s.2.elapsed limit
none_beyond_limit-is_nat_le limit s = is_within_limit_by_bytes-is_nat_le s.2.elapsed limit

pub limited : (limit : ℕ) (never_lists more : List (List Condition)) (s : TrackedMachine) → more ≡ never_lists ++ lists_beyond_limit (limit / 65536) (limit / 256 % 256) (limit % 256) →
    meets_none more s ≡ (meets_none never_lists s && nat_le s.2.elapsed limit)
limited limit never_lists more s e =
    let last = lists_beyond_limit (limit / 65536) (limit / 256 % 256) (limit % 256) in
    ap (λ (xs : List (List Condition)). meets_none xs s) e ∙ meets_none-append never_lists last s ∙ ap (λ b. meets_none never_lists s && b) (none_beyond_limit-is_nat_le limit s)
