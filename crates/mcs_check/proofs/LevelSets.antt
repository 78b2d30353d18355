-- All input levels that the limits allow, built by adding one key at a time.
use Rattle.std.proofs.Common.{◌≡◌, ◌<◌, ◌≤◌, ◌+◌, ◌++◌, ◌∙◌, ℕ, zero, suc, Bool, true, false, cond, ◌&&◌, List, [], ◌∷◌, inl, inr, length, take, get_or, slice_index, nat_le, nat_lt, refl, sym, ap, subst, arith, length-append}
use Rattle.std.proofs.Math.Seq.{take-suc, get_or-append_seam}
use Rattle.std.proofs.lemmas.Bool.{and_from, and_parts, cases_lt, cases_eq, le-leb, leb-true, lt-ltb, ltb-true}
use Rattle.std.proofs.lemmas.List.{get_or_past, get_or_append_left, get_or-take, length-take-le, take_all}
use Rattle.std.proofs.lemmas.List.Elements.{All-append, All-cons, All-take, Contains-append_left, Contains-append_right}
use Rattle.std.proofs.lemmas.List.Sums.{sum_by_push}
use Rattle.std.specs.List.{All, Contains, flat_map, sum}
use Rattle.mcs_model.specs.declared.board.BoardParts.{BoardParts}
use Rattle.mcs_model.specs.Boards.{key_count}
use Rattle.mcs_model.specs.Validity.{AreBelow}
use Rattle.mcs_drive.specs.DrivenRuns.{InputLimits, Levels}
use Rattle.mcs_check.specs.LevelSets.{AreAllAllowedLevels, levels_of_first_keys, with_each_next_key, with_next_key, without_keys}

-- holds if `l` has a level for each of the first `i` keys and for TEST, and all levels are within
-- the limits
record AreAllowedSoFar (limits : InputLimits) (i : ℕ) (l : Levels) : Type 0 where
  keys_fit : AreBelow i 2 l.keys
  test_fits : l.test < 2
  keys : (k : ℕ) → slice_index l.keys k ≤ slice_index limits.keys k
  test : l.test ≤ limits.test
  together : sum l.keys ≤ limits.together

-- ---- lists of one or two elements, and lists of lists

All-none : {X : Type 0} (P : X → Type 0) → All P []
All-none P = λ k d h. absurd (omega arith)

All-one_or_two : {X : Type 0} (P : X → Type 0) (x y : X) (b : Bool) → P x → (b ≡ true → P y) → All P (x ∷ cond b (y ∷ []) [])
All-one_or_two P x y true h k = All-cons P x (y ∷ []) h (All-cons P y [] (k refl) (All-none P))
All-one_or_two P x y false h k = All-cons P x [] h (All-none P)

Contains-second : {X : Type 0} (x y : X) (b : Bool) → b ≡ true → Contains (x ∷ cond b (y ∷ []) []) y
Contains-second x y true e = (1, omega arith, refl)
Contains-second x y false e = absurd (cc)

All-flat_map : {X Y : Type 0} (P : X → Type 0) (Q : Y → Type 0) (f : X → List Y) (xs : List X) → ((x : X) → P x → All Q (f x)) → All P xs → All Q (flat_map f xs)
All-flat_map P Q f [] each all = All-none Q
All-flat_map P Q f (x ∷ xs) each all =
    All-append Q (f x) (flat_map f xs) (each x (all 0 x (omega arith)))
    (All-flat_map P Q f xs each (λ k d h. all (suc k) d (omega arith)))

Contains-flat_map_at : {X Y : Type 0} (f : X → List Y) (xs : List X) (x : X) (y : Y) (k : ℕ) → k < length xs → get_or xs k x ≡ x → Contains (f x) y → Contains (flat_map f xs) y
Contains-flat_map_at f [] x y k h e inner = absurd (omega arith)
Contains-flat_map_at f (a ∷ xs) x y zero h e inner = Contains-append_left (f a) (flat_map f xs) y (subst (λ z. Contains (f z) y) (sym e) inner)
Contains-flat_map_at f (a ∷ xs) x y (suc k) h e inner = Contains-append_right (f a) (flat_map f xs) y (Contains-flat_map_at f xs x y k (omega arith) e inner)

-- ---- one more key

sum-push : (xs : List ℕ) (x : ℕ) → sum (xs ++ x ∷ []) ≡ sum xs + x
sum-push xs x = sum_by_push (λ n. n) xs x

module _ (limits : InputLimits) where
  keys-within_limits : (i : ℕ) (l : Levels) (x : ℕ) → AreAllowedSoFar limits i l → x ≤ slice_index limits.keys i → (k : ℕ) → slice_index (l.keys ++ x ∷ []) k ≤ slice_index limits.keys k
  keys-within_limits i l x is low k =
      let len = is.keys_fit.has_count in
      let more : length (l.keys ++ x ∷ []) ≡ length l.keys + 1 = length-append l.keys (x ∷ []) in
      elim (cases_lt k i) [
        | inl below ↦
            let same : slice_index (l.keys ++ x ∷ []) k ≡ slice_index l.keys k = get_or_append_left l.keys (x ∷ []) 0 k (omega arith) in
            let within = is.keys k in
            omega arith
        | inr rest ↦ elim (cases_eq k (length l.keys)) [
          | inl at ↦
              let same : slice_index (l.keys ++ x ∷ []) k ≡ x = ap (slice_index (l.keys ++ x ∷ [])) at ∙ get_or-append_seam l.keys x [] 0 in
              let limit : slice_index limits.keys k ≡ slice_index limits.keys i = ap (slice_index limits.keys) (at ∙ len) in
              omega arith
          | inr other ↦
              let past : k ≡ length l.keys → ⊥ = other in
              let none : slice_index (l.keys ++ x ∷ []) k ≡ 0 = get_or_past (l.keys ++ x ∷ []) k 0 (omega arith) in
              omega arith
        ]
      ]

  allowed-with_next_key : (i : ℕ) (l : Levels) (x : ℕ) → AreAllowedSoFar limits i l → x < 2 → x ≤ slice_index limits.keys i → sum l.keys + x ≤ limits.together → AreAllowedSoFar limits (suc i) (with_next_key l x)
  allowed-with_next_key i l x is bit low few = record {
    keys_fit = record {
      has_count = (let more = length-append l.keys (x ∷ []) in let len = is.keys_fit.has_count in omega arith);
      below = All-append (λ n. n < 2) l.keys (x ∷ []) is.keys_fit.below (All-cons (λ n. n < 2) x [] bit (All-none (λ n. n < 2)));
    };
    test_fits = is.test_fits;
    keys = keys-within_limits i l x is low;
    test = is.test;
    together = (let more = sum-push l.keys x in omega arith);
  }

  allowed-with_each_next_key : (i : ℕ) (l : Levels) → AreAllowedSoFar limits i l → All (AreAllowedSoFar limits (suc i)) (with_each_next_key limits i l)
  allowed-with_each_next_key i l is =
      let may : Bool = nat_le 1 (slice_index limits.keys i) && nat_lt (sum l.keys) limits.together in
      All-one_or_two (AreAllowedSoFar limits (suc i)) (with_next_key l 0) (with_next_key l 1) may
      (allowed-with_next_key i l 0 is (omega arith) (omega arith) (let few = is.together in omega arith))
      (λ e.
      let parts = and_parts (nat_le 1 (slice_index limits.keys i)) (nat_lt (sum l.keys) limits.together) e in
      let high = leb-true 1 (slice_index limits.keys i) parts.0 in
      let fewer = ltb-true (sum l.keys) limits.together parts.1 in
      allowed-with_next_key i l 1 is (omega arith) high (omega arith))

  -- ---- the last key apart

  abbrev front_of : ℕ → Levels → Levels
  front_of i l = record { keys = take i l.keys; test = l.test }

  keys-split : (i : ℕ) (keys : List ℕ) → length keys ≡ suc i → keys ≡ take i keys ++ slice_index keys i ∷ []
  keys-split i keys len = sym (take_all (suc i) keys (omega arith)) ∙ take-suc keys i 0 (omega arith)

  levels-split : (i : ℕ) (l : Levels) → AreAllowedSoFar limits (suc i) l → with_next_key (front_of i l) (slice_index l.keys i) ≡ l
  levels-split i l is = ap (λ (keys : List ℕ). record l { keys = keys }) (sym (keys-split i l.keys is.keys_fit.has_count))

  sum-split : (i : ℕ) (l : Levels) → AreAllowedSoFar limits (suc i) l → sum (take i l.keys) + slice_index l.keys i ≡ sum l.keys
  sum-split i l is = sym (sum-push (take i l.keys) (slice_index l.keys i)) ∙ ap sum (sym (keys-split i l.keys is.keys_fit.has_count))

  front-within_limits : (i : ℕ) (l : Levels) → AreAllowedSoFar limits (suc i) l → (k : ℕ) → slice_index (take i l.keys) k ≤ slice_index limits.keys k
  front-within_limits i l is k =
      let len = is.keys_fit.has_count in
      elim (cases_lt k i) [
        | inl below ↦
            let same : slice_index (take i l.keys) k ≡ slice_index l.keys k = get_or-take i l.keys k 0 below in
            let within = is.keys k in
            omega arith
        | inr rest ↦
            let count : length (take i l.keys) ≡ i = length-take-le i l.keys (omega arith) in
            let none : slice_index (take i l.keys) k ≡ 0 = get_or_past (take i l.keys) k 0 (omega arith) in
            omega arith
      ]

  allowed-front : (i : ℕ) (l : Levels) → AreAllowedSoFar limits (suc i) l → AreAllowedSoFar limits i (front_of i l)
  allowed-front i l is = record {
    keys_fit = record {
      has_count = length-take-le i l.keys (let len = is.keys_fit.has_count in omega arith);
      below = All-take (λ n. n < 2) i l.keys is.keys_fit.below;
    };
    test_fits = is.test_fits;
    keys = front-within_limits i l is;
    test = is.test;
    together = (let same = sum-split i l is in let few = is.together in omega arith);
  }

  contains-next_level : (i : ℕ) (l : Levels) (x : ℕ) → x < 2 → x ≤ slice_index limits.keys i → sum l.keys + x ≤ limits.together → Contains (with_each_next_key limits i l) (with_next_key l x)
  contains-next_level i l zero bit low few = (0, omega arith, refl)
  contains-next_level i l (suc zero) bit low few =
      Contains-second (with_next_key l 0) (with_next_key l 1) (nat_le 1 (slice_index limits.keys i) && nat_lt (sum l.keys) limits.together)
      (and_from (nat_le 1 (slice_index limits.keys i)) (nat_lt (sum l.keys) limits.together) (le-leb 1 (slice_index limits.keys i) low) (lt-ltb (sum l.keys) limits.together (omega arith)))
  contains-next_level i l (suc (suc x)) bit low few = absurd (omega arith)

  -- ---- all levels

  allowed-first_keys : (i : ℕ) → All (AreAllowedSoFar limits i) (levels_of_first_keys limits i)
  allowed-first_keys zero =
      let bits : AreBelow 0 2 [] = record { has_count = refl; below = All-none (λ n. n < 2) } in
      let none : (k : ℕ) → slice_index [] k ≤ slice_index limits.keys k = λ k. omega arith in
      All-one_or_two (AreAllowedSoFar limits 0) (without_keys 0) (without_keys 1) (nat_le 1 limits.test)
      (record { keys_fit = bits; test_fits = omega arith; keys = none; test = omega arith; together = omega arith })
      (λ e. record { keys_fit = bits; test_fits = omega arith; keys = none; test = leb-true 1 limits.test e; together = omega arith })
  allowed-first_keys (suc i) = All-flat_map (AreAllowedSoFar limits i) (AreAllowedSoFar limits (suc i)) (with_each_next_key limits i) (levels_of_first_keys limits i) (allowed-with_each_next_key i) (allowed-first_keys i)

  contains-test_level : (x : ℕ) → x < 2 → x ≤ limits.test → Contains (levels_of_first_keys limits 0) (without_keys x)
  contains-test_level zero bit low = (0, omega arith, refl)
  contains-test_level (suc zero) bit low = Contains-second (without_keys 0) (without_keys 1) (nat_le 1 limits.test) (le-leb 1 limits.test low)
  contains-test_level (suc (suc x)) bit low = absurd (omega arith)

  no_keys : (keys : List ℕ) → length keys ≡ 0 → [] ≡ keys
  no_keys [] e = refl
  no_keys (x ∷ xs) e = absurd (omega arith)

  contains-first_keys : (i : ℕ) (l : Levels) → AreAllowedSoFar limits i l → Contains (levels_of_first_keys limits i) l
  contains-first_keys zero l is =
      subst (Contains (levels_of_first_keys limits 0)) (ap (λ (keys : List ℕ). record l { keys = keys }) (no_keys l.keys is.keys_fit.has_count))
      (contains-test_level l.test is.test_fits is.test)
  contains-first_keys (suc i) l is =
      let front = contains-first_keys i (front_of i l) (allowed-front i l is) in
      let x = slice_index l.keys i in
      let bit : x < 2 = is.keys_fit.below i 0 (let len = is.keys_fit.has_count in omega arith) in
      let few : sum (take i l.keys) + x ≤ limits.together = (let same = sum-split i l is in let most = is.together in omega arith) in
      Contains-flat_map_at (with_each_next_key limits i) (levels_of_first_keys limits i) (front_of i l) l front.0 front.1 front.2
      (subst (Contains (with_each_next_key limits i (front_of i l))) (levels-split i l is) (contains-next_level i (front_of i l) x bit (is.keys i) few))

  -- if a board has one key for each key level in the limits, `levels_of_first_keys` for all these
  -- keys lists all levels that the limits allow
  pub are_all_allowed_levels : (b : BoardParts) → key_count b ≡ length limits.keys → AreAllAllowedLevels limits b (levels_of_first_keys limits (length limits.keys))
  are_all_allowed_levels b count = record {
    allowed = λ k d h.
        let is = allowed-first_keys (length limits.keys) k d h in
        record {
          fits = record { keys = record { has_count = is.keys_fit.has_count ∙ sym count; below = is.keys_fit.below }; test = is.test_fits };
          keys = is.keys;
          test = is.test;
          together = is.together;
        };
    complete = λ l is. contains-first_keys (length limits.keys) l (record {
      keys_fit = record { has_count = is.fits.keys.has_count ∙ count; below = is.fits.keys.below };
      test_fits = is.fits.test;
      keys = is.keys;
      test = is.test;
      together = is.together;
    });
  }
