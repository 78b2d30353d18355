-- Codecs. A codec is an encoding and a reading that are inverses of each other. Larger codecs are
-- built from smaller ones.
use Rattle.std.proofs.Common.{◌≡◌, ℕ, zero, suc, ◌^◌, ◌<◌, ◌≤◌, Bool, true, false, cond, ltb, eqb, leb, List, [], ◌∷◌, ◌++◌, length, get_or, take, drop, Some, None, refl, sym, ap, subst, ◌∙◌, append_assoc, arith, inl, inr}
use Rattle.std.specs.List.{flat_map, AllByRecursion}
use Rattle.std.specs.Int.{Width, w16, w32, byte_len, from_be_bytes, to_be_bytes}
use Rattle.std.proofs.lemmas.Bool.{leb-true, le-leb, cases_lt, ltb-false, ltb-true, le-ltb, lt-ltb, eqb-true}
use Rattle.std.proofs.lemmas.List.{take_at, drop_at, take-append-drop, append-nil, length-append, length-take, length-take-le, get_or-take, get_or_past}
use Rattle.std.proofs.lemmas.Nat.{be_bytes_2, be_bytes_4, from_be_bytes-to_be_bytes_2, from_be_bytes-to_be_bytes_4}
use Rattle.std.proofs.lemmas.Option.{cond_some}
use Rattle.mcs_codec.specs.BoardBytes.{counted_bytes}
use Rattle.mcs_codec.specs.CommandBytes.{address_bytes}
use Rattle.mcs_codec.specs.Reading.{◌>>=◌, and_then, Read, Reading, give, byte_at, wide_number_at, address_at, bytes_at, read_if, read_times, number_below_at, whole_value, read_all_of, counted_at}

-- ---- bytes

abbrev pub IsBytes : List ℕ → Type 0
IsBytes bytes = (i : ℕ) → get_or bytes i 0 < 256

pub IsBytes-rest : (b : ℕ) (bytes : List ℕ) → IsBytes (b ∷ bytes) → IsBytes bytes
IsBytes-rest b bytes h i = h (suc i)

pub IsBytes-after : (front rest : List ℕ) → IsBytes (front ++ rest) → IsBytes rest
IsBytes-after [] rest h = h
IsBytes-after (b ∷ front) rest h = IsBytes-after front rest (IsBytes-rest b (front ++ rest) h)

IsBytes-take : (n : ℕ) (bytes : List ℕ) → IsBytes bytes → IsBytes (take n bytes)
IsBytes-take n bytes h i =
    elim (cases_lt i n) [
      | inl lt ↦ rw (get_or-take n bytes i 0 lt) (h i)
      | inr le ↦ rw (get_or_past (take n bytes) i 0 (omega (arith, length-take n bytes))) (omega arith)
    ]

-- ---- steps

-- if a step and the reading `next` after it together give a value, each of them gives a value
pub values_of_both_readings : {A B : Type 0} (r : Read A) (next : A → Reading B) (y : B × List ℕ) → and_then r next ≡ Some y → (x : A × List ℕ) × (r ≡ Some x) × (next x.0 x.1 ≡ Some y)
values_of_both_readings (Some x) next y e = (x, refl, e)
values_of_both_readings None next y e = absurd cc

test_is_false_if_some : {A : Type 0} (b : Bool) (x y : A) → cond b None (Some x) ≡ Some y → (b ≡ false) × (x ≡ y)
test_is_false_if_some true x y e = absurd cc
test_is_false_if_some false x y e = (refl, cc)

-- ---- codecs

-- Holds if `read` is the inverse of `spell`. A value that is read satisfies `fits`, and the bytes
-- that were consumed are its encoding. A value that satisfies `fits` is read from its encoding,
-- whatever bytes follow.
pub record IsCodec {A : Type 0} (spell : A → List ℕ) (fits : A → Type 0) (read : Reading A) : Type 0 where
  pub reads_encoding : (bytes : List ℕ) (x : A × List ℕ) → IsBytes bytes → read bytes ≡ Some x → (bytes ≡ spell x.0 ++ x.1) × fits x.0
  pub reads_back : (a : A) (rest : List ℕ) → fits a → read (spell a ++ rest) ≡ Some (a, rest)

-- ---- numbers

byte_reads_encoding : (bytes : List ℕ) (x : ℕ × List ℕ) → IsBytes bytes → byte_at bytes ≡ Some x → (bytes ≡ x.0 ∷ x.1) × (x.0 < 256)
byte_reads_encoding [] x fits e = absurd cc
byte_reads_encoding (b ∷ bytes) x fits e = let same : (b, bytes) ≡ x = cc in subst (λ (y : ℕ × List ℕ). (b ∷ bytes ≡ y.0 ∷ y.1) × (y.0 < 256)) same (refl, fits 0)

pub byte_codec : IsCodec (λ b. b ∷ []) (λ b. b < 256) byte_at
byte_codec = record { reads_encoding = byte_reads_encoding; reads_back = λ a rest h. refl }

-- a codec for one byte, with no condition on the value of the byte
pub any_byte_codec : IsCodec (λ b. b ∷ []) (λ _. Unit {0}) byte_at
any_byte_codec = record { reads_encoding = λ bytes x all e. ((byte_reads_encoding bytes x all e).0, tt); reads_back = λ a rest h. refl }

pub record IsWide (w : Width) (limit : ℕ) : Type 0 where
  pub len : (n : ℕ) → length (to_be_bytes w n) ≡ byte_len w
  pub back : (bytes : List ℕ) → length bytes ≡ byte_len w → IsBytes bytes → to_be_bytes w (from_be_bytes w bytes) ≡ bytes
  pub reads_back : (n : ℕ) → n < limit → from_be_bytes w (to_be_bytes w n) ≡ n
  pub below : (bytes : List ℕ) → IsBytes bytes → from_be_bytes w bytes < limit

w16_is_wide : IsWide w16 (2 ^ 16)
w16_is_wide = record {
  len = λ n. refl;
  back = λ bytes len fits. be_bytes_2 bytes _ len fits refl;
  reads_back = λ n lt. from_be_bytes-to_be_bytes_2 n lt;
  below = λ bytes fits. omega (arith, fits 0, fits 1);
}

w32_is_wide : IsWide w32 (2 ^ 32)
w32_is_wide = record {
  len = λ n. refl;
  back = λ bytes len fits. be_bytes_4 bytes _ len fits refl;
  reads_back = λ n lt. from_be_bytes-to_be_bytes_4 n lt;
  below = λ bytes fits. omega (arith, fits 0, fits 1, fits 2, fits 3);
}

number_reads_encoding : (w : Width) (limit : ℕ) (wide : IsWide w limit) (bytes : List ℕ) (x : ℕ × List ℕ) → IsBytes bytes → wide_number_at w bytes ≡ Some x → (bytes ≡ to_be_bytes w x.0 ++ x.1) × (x.0 < limit)
number_reads_encoding w limit wide bytes x fits e =
    let number_and_rest : ℕ × List ℕ = (from_be_bytes w (take (byte_len w) bytes), drop (byte_len w) bytes) in
    let g = test_is_false_if_some (ltb (length bytes) (byte_len w)) number_and_rest x e in
    let long : byte_len w ≤ length bytes = ltb-false _ _ g.0 in
    let small : IsBytes (take (byte_len w) bytes) = IsBytes-take (byte_len w) bytes fits in
    let front : to_be_bytes w (from_be_bytes w (take (byte_len w) bytes)) ≡ take (byte_len w) bytes = wide.back (take (byte_len w) bytes) (omega (arith, length-take (byte_len w) bytes)) small in
    subst (λ (y : ℕ × List ℕ). (bytes ≡ to_be_bytes w y.0 ++ y.1) × (y.0 < limit)) g.1 (rw front (sym (take-append-drop (byte_len w) bytes)), wide.below (take (byte_len w) bytes) small)

number_reads_back : (w : Width) (limit : ℕ) (wide : IsWide w limit) (n : ℕ) (rest : List ℕ) → n < limit → wide_number_at w (to_be_bytes w n ++ rest) ≡ Some (n, rest)
number_reads_back w limit wide n rest lt =
    let len = wide.len n in
    let long : ltb (length (to_be_bytes w n ++ rest)) (byte_len w) ≡ false = le-ltb _ _ (omega (arith, length-append (to_be_bytes w n) rest)) in
    rw (long, take_at (to_be_bytes w n) rest (byte_len w) len, drop_at (to_be_bytes w n) rest (byte_len w) len, wide.reads_back n lt) refl

pub word_codec : IsCodec (to_be_bytes w16) (λ n. n < 2 ^ 16) (wide_number_at w16)
word_codec = record { reads_encoding = number_reads_encoding w16 (2 ^ 16) w16_is_wide; reads_back = number_reads_back w16 (2 ^ 16) w16_is_wide }

pub long_codec : IsCodec (to_be_bytes w32) (λ n. n < 2 ^ 32) (wide_number_at w32)
long_codec = record { reads_encoding = number_reads_encoding w32 (2 ^ 32) w32_is_wide; reads_back = number_reads_back w32 (2 ^ 32) w32_is_wide }

-- a codec for `count` bytes, with no condition on their values
pub bytes_codec : (count : ℕ) → IsCodec (λ (l : List ℕ). l) (λ l. length l ≡ count) (bytes_at count)
unfolding bytes_at
bytes_codec count = record {
  reads_encoding = λ bytes x all e.
      let g = test_is_false_if_some (ltb (length bytes) count) (take count bytes, drop count bytes) x e in
      subst (λ (y : List ℕ × List ℕ). (bytes ≡ y.0 ++ y.1) × (length y.0 ≡ count)) g.1 (sym (take-append-drop count bytes), length-take-le count bytes (ltb-false _ _ g.0));
  reads_back = λ l rest h.
      let long : ltb (length (l ++ rest)) count ≡ false = le-ltb _ _ (omega (arith, length-append l rest, h)) in
      rw (long, take_at l rest count h, drop_at l rest count h) refl;
}

-- holds if the list has `count` numbers, each below `limit`
pub record AreNumbersBelow (count limit : ℕ) (items : List ℕ) : Type 0 where
  pub len : length items ≡ count
  pub small : AllByRecursion (λ n. n < limit) items

front_bytes_below_256 : (front rest : List ℕ) → IsBytes (front ++ rest) → AllByRecursion (λ n. n < 256) front
front_bytes_below_256 [] rest h = tt
front_bytes_below_256 (b ∷ front) rest h = (h 0, front_bytes_below_256 front rest (IsBytes-rest b (front ++ rest) h))

-- a codec for `count` bytes, with the condition that each byte is below 256
pub numbers_codec : (count : ℕ) → IsCodec (λ (l : List ℕ). l) (AreNumbersBelow count 256) (bytes_at count)
numbers_codec count = record {
  reads_encoding = λ bytes x all e. let t = (bytes_codec count).reads_encoding bytes x all e in (t.0, record { len = t.1; small = front_bytes_below_256 x.0 x.1 (subst IsBytes t.0 all) });
  reads_back = λ l rest h. (bytes_codec count).reads_back l rest h.len;
}

-- ---- combinators

-- a codec for values that pass `test`; the reading fails for any other value
pub tested_codec : {A : Type 0} {s : A → List ℕ} {f : A → Type 0} {r : Reading A} (test : A → Bool) → IsCodec s f r → IsCodec s (λ a. f a × (test a ≡ true)) (read_if test r)
tested_codec {A} {s} {f} {r} test codec = record {
  reads_encoding = λ bytes x all e.
      let b = values_of_both_readings (r bytes) (λ a rest. cond (test a) (Some (a, rest)) None) x e in
      let g = cond_some (test b.0.0) b.0 x b.2 in
      let t = codec.reads_encoding bytes b.0 all b.1 in
      subst (λ (y : A × List ℕ). (bytes ≡ s y.0 ++ y.1) × (f y.0 × (test y.0 ≡ true))) g.1 (t.0, (t.1, g.0));
  reads_back = λ a rest h. rw (codec.reads_back a rest h.0) (rw h.1 refl);
}

-- Holds if `read` is a block of steps and an end. The steps read the values `c` in order, and then
-- the block continues with `end`.
pub record IsBlock {C B : Type 0} (s : C → List ℕ) (f : C → Type 0) (end : C → Reading B) (read : Reading B) : Type 0 where
  pub reads_encoding : (bytes : List ℕ) (x : B × List ℕ) → IsBytes bytes → read bytes ≡ Some x → (c : C × List ℕ) × (bytes ≡ s c.0 ++ c.1) × f c.0 × (end c.0 c.1 ≡ Some x)
  pub reads_back : (c : C) (rest : List ℕ) → f c → read (s c ++ rest) ≡ end c rest

-- a block of one step, followed by `end`
pub last_step : {A B : Type 0} {s : A → List ℕ} {f : A → Type 0} {r : Reading A} (end : A → Reading B) → IsCodec s f r → IsBlock s f end (r >>= end)
last_step {A} {B} {s} {f} {r} end codec = record {
  reads_encoding = λ bytes x all e.
      let a = values_of_both_readings (r bytes) end x e in
      let t = codec.reads_encoding bytes a.0 all a.1 in
      (a.0, t.0, t.1, a.2);
  reads_back = λ c rest h. rw (codec.reads_back c rest h) refl;
}

-- a block of one step, which gives the value of that step
pub steps_of_last_value : {A : Type 0} {s : A → List ℕ} {f : A → Type 0} {r : Reading A} → IsCodec s f r → IsBlock s f give r
steps_of_last_value codec = record {
  reads_encoding = λ bytes x all e. let t = codec.reads_encoding bytes x all e in (x, t.0, t.1, refl);
  reads_back = λ c rest h. codec.reads_back c rest h;
}

-- a block without steps
pub steps_of_empty_block : {B : Type 0} (end : Unit {0} → Reading B) → IsBlock (λ (_ : Unit {0}). []) (λ _. Unit {0}) end (end tt)
steps_of_empty_block end = record {
  reads_encoding = λ bytes x all e. ((tt, bytes), refl, tt, e);
  reads_back = λ c rest h. refl;
}

-- a block of one step and further steps, which can depend on the value of the first
pub next_step : {A C B : Type 0} {s : A → List ℕ} {f : A → Type 0} {r : Reading A} {t : A → C → List ℕ} {g : A → C → Type 0} {q : A → Reading B} (end : A × C → Reading B)
    → IsCodec s f r → ((a : A) → f a → IsBlock (t a) (g a) (λ c. end (a, c)) (q a)) → IsBlock (λ (p : A × C). s p.0 ++ t p.0 p.1) (λ p. f p.0 × g p.0 p.1) end (r >>= q)
next_step {A} {C} {B} {s} {f} {r} {t} {g} {q} end first second = record {
  reads_encoding = λ bytes x all e.
      let a = values_of_both_readings (r bytes) q x e in
      let one = first.reads_encoding bytes a.0 all a.1 in
      let two = (second a.0.0 one.1).reads_encoding a.0.1 x (IsBytes-after (s a.0.0) a.0.1 (subst IsBytes one.0 all)) a.2 in
      let parts : bytes ≡ (s a.0.0 ++ t a.0.0 two.0.0) ++ two.0.1 = one.0 ∙ ap (λ (l : List ℕ). s a.0.0 ++ l) two.1 ∙ sym (append_assoc (s a.0.0) (t a.0.0 two.0.0) two.0.1) in
      (((a.0.0, two.0.0), two.0.1), parts, (one.1, two.2), two.3);
  reads_back = λ p rest h.
      ap (r >>= q) (append_assoc (s p.0) (t p.0 p.1) rest) ∙ rw (first.reads_back p.0 (t p.0 p.1 ++ rest) h.0) ((second p.0 h.0).reads_back p.1 rest h.1);
}

-- ---- blocks

-- Holds if the end of a block makes a value `b` from the values `c` of the steps, and `b` and `c`
-- have the same encoding. Each `b` that satisfies `fits` can be made from some `c`.
pub record IsBlockEnd {C B : Type 0} (s : C → List ℕ) (f : C → Type 0) (spell : B → List ℕ) (fits : B → Type 0) (end : C → Reading B) : Type 0 where
  pub value_of_steps : (c : C) (rest : List ℕ) (x : B × List ℕ) → f c → end c rest ≡ Some x → (spell x.0 ≡ s c) × (rest ≡ x.1) × fits x.0
  pub steps_of_value : (b : B) → fits b → (c : C) × (spell b ≡ s c) × f c × ((rest : List ℕ) → end c rest ≡ Some (b, rest))

pub block_codec : {B C : Type 0} {s : C → List ℕ} {f : C → Type 0} {spell : B → List ℕ} {fits : B → Type 0} {end : C → Reading B} {q : Reading B} → IsBlock s f end q → IsBlockEnd s f spell fits end → IsCodec spell fits q
block_codec {B} {C} {s} {f} {spell} {fits} {end} {q} steps ends = record {
  reads_encoding = λ bytes x all e.
      let c = steps.reads_encoding bytes x all e in
      let m = ends.value_of_steps c.0.0 c.0.1 x c.2 c.3 in
      (c.1 ∙ ap (λ (l : List ℕ). s c.0.0 ++ l) m.1 ∙ ap (λ (l : List ℕ). l ++ x.1) (sym m.0), m.2);
  reads_back = λ b rest h.
      let u = ends.steps_of_value b h in
      ap (λ (l : List ℕ). q (l ++ rest)) u.1 ∙ steps.reads_back u.0 rest u.2 ∙ u.3 rest;
}

-- a codec for a block whose end makes the value from the values of the steps
pub giving_codec : {C B : Type 0} {s : C → List ℕ} {f : C → Type 0} {q : Reading B} (make : C → B) (spell : B → List ℕ) (fits : B → Type 0) → IsBlock s f (λ c. give (make c)) q
    → ((c : C) → f c → (spell (make c) ≡ s c) × fits (make c)) → ((b : B) → fits b → (c : C) × (make c ≡ b) × f c) → IsCodec spell fits q
giving_codec {C} {B} {s} {f} {q} make spell fits steps value_of_steps steps_of_value = block_codec steps (record {
  value_of_steps = λ c rest x h e.
      let same : (make c, rest) ≡ x = cc in
      let m = value_of_steps c h in
      subst (λ (y : B × List ℕ). (spell y.0 ≡ s c) × (rest ≡ y.1) × fits y.0) same (m.0, refl, m.1);
  steps_of_value = λ b h.
      let u = steps_of_value b h in
      (u.0, sym (ap spell u.1) ∙ (value_of_steps u.0 u.2).0, u.2, λ rest. ap (λ (v : B). Some (v, rest)) u.1);
})

-- A list of 0 values is empty. A list of `n + 1` values has a first value and `n` other values
-- (`first_value_and_others`).
empty_list_of_zero_values : {A : Type 0} (f : A → Type 0) (l : List A) → (length l ≡ 0) × AllByRecursion f l → (u : Unit {0}) × ([] ≡ l) × Unit {0}
empty_list_of_zero_values f [] h = (tt, refl, tt)
empty_list_of_zero_values f (a ∷ l) h = absurd cc

first_value_and_others : {A : Type 0} (f : A → Type 0) (n : ℕ) (l : List A) → (length l ≡ suc n) × AllByRecursion f l → (p : A × List A) × (p.0 ∷ p.1 ≡ l) × (f p.0 × ((length p.1 ≡ n) × AllByRecursion f p.1))
first_value_and_others f n [] h = absurd cc
first_value_and_others f n (a ∷ l) h = ((a, l), refl, (h.1.0, (omega (arith, h.0), h.1.1)))

pub repeated_codec : {A : Type 0} {s : A → List ℕ} {f : A → Type 0} {r : Reading A} (n : ℕ) → IsCodec s f r → IsCodec (flat_map s) (λ l. (length l ≡ n) × AllByRecursion f l) (read_times n r)
unfolding read_times
repeated_codec {A} {s} {f} {r} zero codec = giving_codec (λ (_ : Unit {0}). []) (flat_map s) (λ l. (length l ≡ 0) × AllByRecursion f l) (steps_of_empty_block _) (λ u h. (refl, (refl, tt))) (empty_list_of_zero_values f)
repeated_codec {A} {s} {f} {r} (suc n) codec = giving_codec (λ p. p.0 ∷ p.1) (flat_map s) (λ l. (length l ≡ suc n) × AllByRecursion f l) (next_step _ codec (λ _ _. last_step _ (repeated_codec n codec))) (λ p h. (refl, (ap suc h.1.0, (h.0, h.1.1)))) (first_value_and_others f n)

-- a codec stays a codec if its range is stated in an equivalent way
pub codec_of_equivalent_range : {A : Type 0} {s : A → List ℕ} {f : A → Type 0} {r : Reading A} (fits : A → Type 0) → ((a : A) → f a → fits a) → ((a : A) → fits a → f a) → IsCodec s f r → IsCodec s fits r
codec_of_equivalent_range fits to from codec = record {
  reads_encoding = λ bytes x all e. let t = codec.reads_encoding bytes x all e in (t.0, to x.0 t.1);
  reads_back = λ a rest h. codec.reads_back a rest (from a h);
}

-- ---- numbers below a limit

pub number_below_codec : (limit : ℕ) → limit ≤ 256 → IsCodec (λ b. b ∷ []) (λ b. b < limit) (number_below_at limit)
number_below_codec limit le = codec_of_equivalent_range (λ b. b < limit) (λ b h. ltb-true _ _ h.1) (λ b h. (omega arith, lt-ltb _ _ h)) (tested_codec (λ n. ltb n limit) byte_codec)

pub address_codec : IsCodec address_bytes (λ n. n < 4096) address_at
address_codec = codec_of_equivalent_range (λ n. n < 4096) (λ n h. ltb-true _ _ h.1) (λ n h. (omega arith, lt-ltb _ _ h)) (tested_codec (λ n. ltb n 4096) word_codec)

-- a codec for a list: a count of at most `limit`, and then that many values
pub counted_codec : {A : Type 0} {s : A → List ℕ} {f : A → Type 0} {r : Reading A} (limit : ℕ) → limit < 256 → IsCodec s f r → IsCodec (counted_bytes s) (λ l. (length l ≤ limit) × AllByRecursion f l) (counted_at limit r)
unfolding counted_at
counted_codec {A} {s} {f} {r} limit lt codec = giving_codec (λ (p : ℕ × List A). p.1) (counted_bytes s) (λ l. (length l ≤ limit) × AllByRecursion f l)
    (next_step _ (tested_codec (λ n. leb n limit) byte_codec) (λ n h. steps_of_last_value (repeated_codec n codec)))
    (λ p h. let le : p.0 ≤ limit = leb-true _ _ h.0.1 in (ap (λ n. n ∷ flat_map s p.1) h.1.0, (omega (arith, h.1.0), h.1.1)))
    (λ l h. ((length l, l), refl, ((omega (arith, h.0), le-leb _ _ h.0), (refl, h.1))))

-- each element of any list satisfies the condition that is always true
pub all_satisfy_unit : {A : Type 0} (l : List A) → AllByRecursion (λ _. Unit {0}) l
all_satisfy_unit [] = tt
all_satisfy_unit (a ∷ l) = (tt, all_satisfy_unit l)

pub any_counted_codec : {A : Type 0} {s : A → List ℕ} {r : Reading A} (limit : ℕ) → limit < 256 → IsCodec s (λ _. Unit {0}) r → IsCodec (counted_bytes s) (λ l. length l ≤ limit) (counted_at limit r)
any_counted_codec limit lt codec = codec_of_equivalent_range (λ l. length l ≤ limit) (λ l h. h.0) (λ l h. (h, all_satisfy_unit l)) (counted_codec limit lt codec)

-- ---- tables of tags

-- holds if `tag` and then `bytes` are the encoding of the value `x.0` followed by the rest `x.1`,
-- and the value satisfies its condition
abbrev pub IsSpellingOf : {P : Type 0} → (P → List ℕ) → (P → Type 0) → ℕ → List ℕ → P × List ℕ → Type 0
IsSpellingOf spell fits tag bytes x = (tag ∷ bytes ≡ spell x.0 ++ x.1) × fits x.0

-- one row of a table of tags: if the tag is `k`, `read` reads the value; otherwise `other` reads it
pub row_of_tag_table : {C P : Type 0} {s : C → List ℕ} {f : C → Type 0} {read : Reading P} {tag : ℕ} {bytes : List ℕ} {x : P × List ℕ} (spell : P → List ℕ) (fits : P → Type 0) (k : ℕ) (make : C → P) (other : Reading P)
    → IsBytes bytes → IsBlock s f (λ c. give (make c)) read → ((c : C) → f c → (spell (make c) ≡ k ∷ s c) × fits (make c))
    → (other bytes ≡ Some x → IsSpellingOf spell fits tag bytes x) → cond (eqb tag k) read other bytes ≡ Some x → IsSpellingOf spell fits tag bytes x
row_of_tag_table {C} {P} {s} {f} {read} {tag} {bytes} {x} spell fits k make other all steps value_of_steps otherwise e =
    let Q : Bool → Type 0 = λ b. (eqb tag k ≡ b) → cond b read other bytes ≡ Some x → IsSpellingOf spell fits tag bytes x in
    (elim (eqb tag k) as Q [
      | true ↦ λ yes h.
          let c = steps.reads_encoding bytes x all h in
          let same : (make c.0.0, c.0.1) ≡ x = let i = c.3 in cc in
          let m = value_of_steps c.0.0 c.2 in
          let parts : tag ∷ bytes ≡ spell (make c.0.0) ++ c.0.1 = rw (m.0, eqb-true _ _ yes) (ap (λ (l : List ℕ). k ∷ l) c.1) in
          subst (λ (y : P × List ℕ). IsSpellingOf spell fits tag bytes y) same (parts, m.1)
      | false ↦ λ no h. otherwise h
    ]) refl e

-- ---- values that are encoded by the whole list of bytes

all_bytes_read_by_whole_value : {A : Type 0} (r : Read A) (a : A) → whole_value r ≡ Some a → r ≡ Some (a, [])
all_bytes_read_by_whole_value (Some (x, [])) a e = let same : x ≡ a = cc in ap (λ v. Some (v, [])) same
all_bytes_read_by_whole_value (Some (x, b ∷ rest)) a e = absurd cc
all_bytes_read_by_whole_value None a e = absurd cc

pub whole_value_reads_encoding : {A : Type 0} {s : A → List ℕ} {f : A → Type 0} {r : Reading A} → IsCodec s f r → (bytes : List ℕ) (a : A) → IsBytes bytes → read_all_of r bytes ≡ Some a → (bytes ≡ s a) × f a
whole_value_reads_encoding {A} {s} {f} {r} codec bytes a all e =
    let t = codec.reads_encoding bytes (a, []) all (all_bytes_read_by_whole_value (r bytes) a e) in
    (t.0 ∙ append-nil (s a), t.1)

pub whole_value_reads_back : {A : Type 0} {s : A → List ℕ} {f : A → Type 0} {r : Reading A} → IsCodec s f r → (a : A) → f a → read_all_of r (s a) ≡ Some a
whole_value_reads_back {A} {s} {f} {r} codec a h = ap (read_all_of r) (sym (append-nil (s a))) ∙ rw (codec.reads_back a [] h) refl

-- no bytes encode two different values
pub encoded_value_is_unique : {A : Type 0} {s : A → List ℕ} {f : A → Type 0} {r : Reading A} → IsCodec s f r → (a b : A) → f a → f b → s a ≡ s b → a ≡ b
encoded_value_is_unique {A} {s} {f} {r} codec a b h k e =
    let one : Some a ≡ Some b = sym (whole_value_reads_back codec a h) ∙ ap (read_all_of r) e ∙ whole_value_reads_back codec b k in
    cc
