-- Reading an image is the inverse of encoding it. The encoding is the marks and then the bytes.
use Rattle.std.proofs.Common.{◌≡◌, ℕ, zero, suc, ◌+◌, ◌*◌, ◌/◌, ◌%◌, ◌^◌, ◌<◌, ◌≤◌, Bool, true, false, cond, eqb, List, [], ◌∷◌, ◌++◌, length, get_or, slice_set, take, get_or-set_other, map, refl, sym, ap, ◌∙◌, arith, inl, inr, ◌⊎◌}
use Rattle.std.specs.Prelude.{◌||◌, ◌≢◌}
use Rattle.std.specs.List.{list_any, All}
use Rattle.std.proofs.lemmas.List.{length-append, length-map, take_more}
use Rattle.std.proofs.lemmas.List.Kept.{AllPairs-cons}
use Rattle.std.proofs.lemmas.List.Folds.{list_any-append}
use Rattle.std.proofs.lemmas.Bool.{cases_lt, cases_eq}
use Rattle.std.proofs.lemmas.Grind.{get_or-set_at}
use Rattle.std.proofs.lemmas.List.Elements.{All-from_recursion, recursion_from_All}
use Rattle.std.proofs.lemmas.Bool.Decides.{nat_tests}
use Rattle.mcs_nibble.specs.Bits.{bit_of}
use Rattle.mcs_nibble.specs.Tables.{table_of}
use Rattle.mcs_nibble.proofs.TableLemmas.{table_of-unique, get_or-table_of, length-table_of}
use Rattle.mcs_model.specs.Images.{IsImage}
use Rattle.mcs_codec.specs.CommandBytes.{mark, byte_of_bits, mark_bytes, image_bytes, image_values}
use Rattle.mcs_codec.specs.CommandReading.{mark_bit, addressed_bytes_at, image_at}
use Rattle.mcs_codec.proofs.Codecs.{AreNumbersBelow, IsCodec, byte_codec, numbers_codec, last_step, next_step, steps_of_empty_block, steps_of_last_value, giving_codec, codec_of_equivalent_range}

-- Holds if the addresses of the image are strictly increasing, at least `low` and below `limit`.
-- Each byte is below 256.
abbrev pub HasAddressesFrom : ℕ → ℕ → List (ℕ × ℕ) → Type 0
HasAddressesFrom low limit [] = Unit {0}
HasAddressesFrom low limit (p ∷ image) = (low ≤ p.0) × (p.0 < limit) × (p.1 < 256) × HasAddressesFrom (p.0 + 1) limit image

-- Holds if the marks of the addresses from `at` to `limit - 1` are the marks of the image. The mark
-- of an address is 1 if the image has a byte at the address, and 0 otherwise.
abbrev pub HasMarksOf : List ℕ → ℕ → ℕ → List (ℕ × ℕ) → Type 0
HasMarksOf marks at limit image = (x : ℕ) → at ≤ x → x < limit → mark image x ≡ mark_bit marks x

eqb_false_if_less : (a x : ℕ) → a < x → eqb a x ≡ false
eqb_false_if_less a x lt = grind (arith, nat_tests)

-- an image has no marks below its lowest address
no_mark_below_lowest_address : (image : List (ℕ × ℕ)) (low limit x : ℕ) → HasAddressesFrom low limit image → x < low → mark image x ≡ 0
no_mark_below_lowest_address [] low limit x h lt = refl
no_mark_below_lowest_address (p ∷ image) low limit x h lt =
    let other : eqb p.0 x ≡ false = let l : x < p.0 = omega arith in grind (arith, nat_tests) in
    rw other (no_mark_below_lowest_address image (p.0 + 1) limit x h.3 (omega arith))

mark_at_first_address : (p : ℕ × ℕ) (image : List (ℕ × ℕ)) (x : ℕ) → p.0 ≡ x → mark (p ∷ image) x ≡ 1
mark_at_first_address p image x is = let e : eqb p.0 x ≡ true = grind (arith, nat_tests) in rw e refl

mark_past_first_address : (p : ℕ × ℕ) (image : List (ℕ × ℕ)) (x : ℕ) → p.0 < x → mark (p ∷ image) x ≡ mark image x
mark_past_first_address p image x lt = rw (eqb_false_if_less p.0 x lt) refl

not_both_zero_and_one : (n : ℕ) → n ≡ 0 → n ≡ 1 → ⊥
not_both_zero_and_one n h k = omega arith

addresses_from_lower_bound : (image : List (ℕ × ℕ)) (low limit : ℕ) → HasAddressesFrom (low + 1) limit image → HasAddressesFrom low limit image
addresses_from_lower_bound [] low limit h = tt
addresses_from_lower_bound (p ∷ image) low limit h = (omega (arith, h.0), h.1, h.2, h.3)

mark_bit_is_one_or_zero : (marks : List ℕ) (at : ℕ) → (mark_bit marks at ≡ 1) ⊎ (mark_bit marks at ≡ 0)
unfolding mark_bit
mark_bit_is_one_or_zero marks at =
    let n = get_or marks (at / 8) 0 / 2 ^ (at % 8) in
    let lt : n % 2 < 2 = omega arith in
    grind arith

above_or_equal : (at v : ℕ) → at ≤ v → (at < v) ⊎ (v ≡ at)
above_or_equal at v le = elim (cases_lt at v) [ inl lt ↦ inl lt | inr ge ↦ inr (omega arith) ]

-- holds if the image has a byte at exactly those addresses from `at` to `limit - 1` that are marked
abbrev HasBytesAtMarkedAddresses : List ℕ → ℕ → ℕ → List (ℕ × ℕ) → Type 0
HasBytesAtMarkedAddresses marks at limit image = HasAddressesFrom at limit image × HasMarksOf marks at limit image

no_address_left : (marks : List ℕ) (at limit : ℕ) (image : List (ℕ × ℕ)) → limit ≤ at → HasBytesAtMarkedAddresses marks at limit image → (u : Unit {0}) × ([] ≡ image) × Unit {0}
no_address_left marks at limit [] le h = (tt, refl, tt)
no_address_left marks at limit (p ∷ image) le h = absurd (omega (arith, h.0.0, h.0.1))

-- at a marked address, one byte is read and added to the image
marked_address_read : (marks : List ℕ) (at limit : ℕ) (p : ℕ × List (ℕ × ℕ)) → at < limit → mark_bit marks at ≡ 1 → (p.0 < 256) × HasBytesAtMarkedAddresses marks (at + 1) limit p.1 → HasBytesAtMarkedAddresses marks at limit ((at, p.0) ∷ p.1)
marked_address_read marks at limit p lt one h = (
  (omega arith, lt, h.0, h.1.0),
  λ v le below. elim (above_or_equal at v le) [
    | inl more ↦ mark_past_first_address (at, p.0) p.1 v more ∙ h.1.1 v (omega arith) below
    | inr is ↦ mark_at_first_address (at, p.0) p.1 v (sym is) ∙ sym one ∙ ap (mark_bit marks) (sym is)
  ],
)

marked_address_split : (marks : List ℕ) (at limit : ℕ) (image : List (ℕ × ℕ)) → at < limit → mark_bit marks at ≡ 1 → HasBytesAtMarkedAddresses marks at limit image → (p : ℕ × List (ℕ × ℕ)) × ((at, p.0) ∷ p.1 ≡ image) × ((p.0 < 256) × HasBytesAtMarkedAddresses marks (at + 1) limit p.1)
marked_address_split marks at limit [] lt one h = absurd (not_both_zero_and_one (mark_bit marks at) (sym (h.1 at (omega arith) lt)) one)
marked_address_split marks at limit (p ∷ image) lt one h = elim (above_or_equal at p.0 h.0.0) [
  | inl more ↦ absurd (not_both_zero_and_one (mark_bit marks at) (sym (h.1 at (omega arith) lt) ∙ no_mark_below_lowest_address (p ∷ image) p.0 limit at (omega arith, h.0.1, h.0.2, h.0.3) more) one)
  | inr is ↦ ((p.1, image), ap (λ n. (n, p.1) ∷ image) (sym is), (h.0.2, (rw is at h.0.3, λ v le below. sym (mark_past_first_address p image v (omega arith)) ∙ h.1 v (omega arith) below)))
]

-- at an address without a mark, nothing is read
unmarked_address_read : (marks : List ℕ) (at limit : ℕ) (image : List (ℕ × ℕ)) → mark_bit marks at ≡ 0 → HasBytesAtMarkedAddresses marks (at + 1) limit image → HasBytesAtMarkedAddresses marks at limit image
unmarked_address_read marks at limit image none h = (
  addresses_from_lower_bound image at limit h.0,
  λ v le below. elim (above_or_equal at v le) [
    | inl more ↦ h.1 v (omega arith) below
    | inr is ↦ rw is (no_mark_below_lowest_address image (at + 1) limit at h.0 (omega arith) ∙ sym none)
  ],
)

unmarked_address_split : (marks : List ℕ) (at limit : ℕ) (image : List (ℕ × ℕ)) → at < limit → mark_bit marks at ≡ 0 → HasBytesAtMarkedAddresses marks at limit image → HasBytesAtMarkedAddresses marks (at + 1) limit image
unmarked_address_split marks at limit [] lt none h = (tt, λ v le below. h.1 v (omega arith) below)
unmarked_address_split marks at limit (p ∷ image) lt none h = elim (above_or_equal at p.0 h.0.0) [
  | inl more ↦ ((omega arith, h.0.1, h.0.2, h.0.3), λ v le below. h.1 v (omega arith) below)
  | inr is ↦ absurd (not_both_zero_and_one (mark (p ∷ image) at) (h.1 at (omega arith) lt ∙ none) (mark_at_first_address p image at is))
]

addressed_codec : (marks : List ℕ) (n at limit : ℕ) → at + n ≡ limit → IsCodec image_values (HasBytesAtMarkedAddresses marks at limit) (addressed_bytes_at marks n at)
unfolding addressed_bytes_at
addressed_codec marks zero at limit k = giving_codec (λ (_ : Unit {0}). []) image_values (HasBytesAtMarkedAddresses marks at limit) (steps_of_empty_block _) (λ u h. (refl, (tt, λ v le below. absurd (omega arith)))) (λ image h. no_address_left marks at limit image (omega arith) h)
addressed_codec marks (suc n) at limit k =
    let others = addressed_codec marks n (at + 1) limit (omega arith) in
    elim (mark_bit_is_one_or_zero marks at) [
      | inl one ↦ rw one (giving_codec (λ p. (at, p.0) ∷ p.1) image_values (HasBytesAtMarkedAddresses marks at limit) (next_step _ byte_codec (λ _ _. last_step _ others)) (λ p h. (refl, marked_address_read marks at limit p (omega arith) one h)) (λ image h. marked_address_split marks at limit image (omega arith) one h))
      | inr none ↦ rw none (codec_of_equivalent_range (HasBytesAtMarkedAddresses marks at limit) (λ image h. unmarked_address_read marks at limit image none h) (λ image h. unmarked_address_split marks at limit image (omega arith) none h) others)
    ]

-- ---- the bits of a byte

byte_from_bits_of_byte : (n : ℕ) → n < 256 → byte_of_bits (bit_of n) ≡ n
byte_from_bits_of_byte n lt = omega arith

bit_of_byte : (f : ℕ → ℕ) (k : ℕ) → ((i : ℕ) → f i < 2) → k < 8 → bit_of (byte_of_bits f) k ≡ f k
bit_of_byte f zero small lt = omega (arith, small 0, small 1, small 2, small 3, small 4, small 5, small 6, small 7)
bit_of_byte f (suc zero) small lt = omega (arith, small 0, small 1, small 2, small 3, small 4, small 5, small 6, small 7)
bit_of_byte f (suc (suc zero)) small lt = omega (arith, small 0, small 1, small 2, small 3, small 4, small 5, small 6, small 7)
bit_of_byte f (suc (suc (suc zero))) small lt = omega (arith, small 0, small 1, small 2, small 3, small 4, small 5, small 6, small 7)
bit_of_byte f (suc (suc (suc (suc zero)))) small lt = omega (arith, small 0, small 1, small 2, small 3, small 4, small 5, small 6, small 7)
bit_of_byte f (suc (suc (suc (suc (suc zero))))) small lt = omega (arith, small 0, small 1, small 2, small 3, small 4, small 5, small 6, small 7)
bit_of_byte f (suc (suc (suc (suc (suc (suc zero)))))) small lt = omega (arith, small 0, small 1, small 2, small 3, small 4, small 5, small 6, small 7)
bit_of_byte f (suc (suc (suc (suc (suc (suc (suc zero))))))) small lt = omega (arith, small 0, small 1, small 2, small 3, small 4, small 5, small 6, small 7)
bit_of_byte f (suc (suc (suc (suc (suc (suc (suc (suc k)))))))) small lt = absurd (omega arith)

mark_is_below_two : (image : List (ℕ × ℕ)) (x : ℕ) → mark image x < 2
mark_is_below_two image x = elim (list_any (λ p. eqb p.0 x) image) as (λ b. cond b 1 0 < 2) [ true ↦ omega arith | false ↦ omega arith ]

-- ---- the marks of an image

mark_is_bit_of_marks : (marks : List ℕ) (image : List (ℕ × ℕ)) (i k : ℕ) → HasMarksOf marks 0 4096 image → i < 512 → k < 8 → mark image (8 * i + k) ≡ bit_of (get_or marks i 0) k
unfolding mark_bit
mark_is_bit_of_marks marks image i k m lt small =
    let here : mark image (8 * i + k) ≡ bit_of (get_or marks ((8 * i + k) / 8) 0) ((8 * i + k) % 8) = m (8 * i + k) (omega arith) (omega arith) in
    let q : (8 * i + k) / 8 ≡ i = omega arith in
    let r : (8 * i + k) % 8 ≡ k = omega arith in
    here ∙ ap (λ j. bit_of (get_or marks j 0) ((8 * i + k) % 8)) q ∙ ap (bit_of (get_or marks i 0)) r

mark_bytes_equal_marks : (marks : List ℕ) (image : List (ℕ × ℕ)) → AreNumbersBelow 512 256 marks → HasMarksOf marks 0 4096 image → mark_bytes image ≡ marks
unfolding mark_bytes
mark_bytes_equal_marks marks image c m = sym (table_of-unique 512 (λ i. byte_of_bits (λ k. mark image (8 * i + k))) marks 0 c.len (λ i lt.
    let b = λ (k : ℕ) (small : k < 8). mark_is_bit_of_marks marks image i k m lt small in
    let n = get_or marks i 0 in
    let fits : n < 256 = All-from_recursion (λ v. v < 256) marks c.small i 0 (omega (arith, c.len)) in
    let bits : byte_of_bits (λ k. mark image (8 * i + k)) ≡ byte_of_bits (bit_of n) = rw (b 0 (omega arith), b 1 (omega arith), b 2 (omega arith), b 3 (omega arith), b 4 (omega arith), b 5 (omega arith), b 6 (omega arith), b 7 (omega arith)) refl in
    sym (bits ∙ byte_from_bits_of_byte n fits)))

mark_bytes_have_marks : (image : List (ℕ × ℕ)) → HasMarksOf (mark_bytes image) 0 4096 image
unfolding mark_bytes mark_bit
mark_bytes_have_marks image x le lt =
    let f = λ (i : ℕ). byte_of_bits (λ k. mark image (8 * i + k)) in
    let byte : get_or (table_of 512 f) (x / 8) 0 ≡ f (x / 8) = get_or-table_of 512 f (x / 8) 0 (omega arith) in
    let bit : bit_of (f (x / 8)) (x % 8) ≡ mark image (8 * (x / 8) + x % 8) = bit_of_byte (λ k. mark image (8 * (x / 8) + k)) (x % 8) (λ i. mark_is_below_two image (8 * (x / 8) + i)) (omega arith) in
    let read_all_of : 8 * (x / 8) + x % 8 ≡ x = omega arith in
    sym (ap (λ b. bit_of b (x % 8)) byte ∙ bit ∙ ap (mark image) read_all_of)

mark_bytes_are_bytes : (image : List (ℕ × ℕ)) → AreNumbersBelow 512 256 (mark_bytes image)
unfolding mark_bytes
mark_bytes_are_bytes image =
    let f = λ (i : ℕ). byte_of_bits (λ k. mark image (8 * i + k)) in
    record {
      len = length-table_of 512 f;
      small = recursion_from_All (λ v. v < 256) (table_of 512 f) (λ i d lt.
          let s = λ (k : ℕ). mark_is_below_two image (8 * i + k) in
          let in_list : i < 512 = omega (arith, length-table_of 512 f) in
          let byte : f i < 256 = omega (arith, s 0, s 1, s 2, s 3, s 4, s 5, s 6, s 7) in
          rw (get_or-table_of 512 f i d in_list) byte);
    }

ascending_image_codec : IsCodec image_bytes (HasAddressesFrom 0 4096) image_at
unfolding image_at
ascending_image_codec = giving_codec (λ (p : List ℕ × List (ℕ × ℕ)). p.1) image_bytes (HasAddressesFrom 0 4096)
    (next_step _ (numbers_codec 512) (λ marks _. steps_of_last_value (addressed_codec marks 4096 0 4096 refl)))
    (λ p h. (ap (λ (l : List ℕ). l ++ image_values p.1) (mark_bytes_equal_marks p.0 p.1 h.0 h.1.1), h.1.0))
    (λ image h. ((mark_bytes image, image), refl, (mark_bytes_are_bytes image, (h, mark_bytes_have_marks image))))

-- ---- images in the form of `HasAddressesFrom` and in the form of `IsImage`

addresses_from_low_of_image : (image : List (ℕ × ℕ)) (low : ℕ) → IsImage image → All (λ p. low ≤ p.0) image → HasAddressesFrom low 4096 image
addresses_from_low_of_image [] low h at_least_low = tt
addresses_from_low_of_image (p ∷ image) low h at_least_low =
    let here = h.in_range 0 p (omega arith) in
    let rest : IsImage image = record { rising = λ i j d lt in_list. h.rising (suc i) (suc j) d (omega arith) (omega arith); in_range = λ i d lt. h.in_range (suc i) d (omega arith) } in
    let later : All (λ q. p.0 + 1 ≤ q.0) image = λ i d lt. let x : p.0 < (get_or image i d).0 = h.rising 0 (suc i) d (omega arith) (omega arith) in omega arith in
    (at_least_low 0 p (omega arith), here.0, here.1, addresses_from_low_of_image image (p.0 + 1) rest later)

all_cons : (P : ℕ × ℕ → Type 0) (p : ℕ × ℕ) (image : List (ℕ × ℕ)) → P p → All P image → All P (p ∷ image)
all_cons P p image h rest zero d lt = h
all_cons P p image h rest (suc i) d lt = rest i d (omega arith)

image_of_addresses_from_low : (image : List (ℕ × ℕ)) (low : ℕ) → HasAddressesFrom low 4096 image → IsImage image × All (λ p. low ≤ p.0) image
image_of_addresses_from_low [] low h = (record { rising = λ i j d lt in_list. absurd (omega arith); in_range = λ i d lt. absurd (omega arith) }, λ i d lt. absurd (omega arith))
image_of_addresses_from_low (p ∷ image) low h =
    let rest = image_of_addresses_from_low image (p.0 + 1) h.3 in
    let later : All (λ q. p.0 < q.0) image = λ i d lt. let x = rest.1 i d lt in omega arith in
    let at_least_low : All (λ q. low ≤ q.0) image = λ i d lt. let x = rest.1 i d lt in omega (arith, h.0) in (
      record { rising = AllPairs-cons (λ x y. x.0 < y.0) p image later rest.0.rising; in_range = all_cons (λ q. (q.0 < 4096) × (q.1 < 256)) p image (h.1, h.2) rest.0.in_range },
      all_cons (λ q. low ≤ q.0) p image h.0 at_least_low,
    )

pub image_codec : IsCodec image_bytes IsImage image_at
image_codec = codec_of_equivalent_range IsImage (λ image h. (image_of_addresses_from_low image 0 h).0) (λ image h. addresses_from_low_of_image image 0 h (λ i d lt. omega arith)) ascending_image_codec

-- ---- the number of bytes

-- an image whose addresses are at least `low` and below `limit` has at most `limit - low` bytes
image_length_within_bounds : (image : List (ℕ × ℕ)) (low limit : ℕ) → low ≤ limit → HasAddressesFrom low limit image → length image + low ≤ limit
image_length_within_bounds [] low limit le h = omega arith
image_length_within_bounds (p ∷ image) low limit le h =
    let rest = image_length_within_bounds image (p.0 + 1) limit (omega (arith, h.1)) h.3 in
    omega (arith, h.0, rest)

pub length-image : (image : List (ℕ × ℕ)) → IsImage image → length (image_bytes image) ≤ 4608
length-image image h =
    let few = image_length_within_bounds image 0 4096 (omega arith) (addresses_from_low_of_image image 0 h (λ i d lt. omega arith)) in
    omega (arith, few, (mark_bytes_are_bytes image).len, length-append (mark_bytes image) (image_values image), length-map image (λ p. p.1))

-- ---- an image with one more byte

mark_if_either_test : (a b : Bool) → cond {A = ℕ} (a || (b || false)) 1 0 ≡ cond {A = ℕ} b 1 (cond {A = ℕ} a 1 0)
mark_if_either_test true true = refl
mark_if_either_test true false = refl
mark_if_either_test false true = refl
mark_if_either_test false false = refl

-- if an image gets one more byte, the address of that byte is marked, and the other marks are
-- unchanged
pub mark_with_one_more_byte : (image : List (ℕ × ℕ)) (p : ℕ × ℕ) (at : ℕ) → mark (image ++ p ∷ []) at ≡ cond (eqb p.0 at) 1 (mark image at)
mark_with_one_more_byte image p at = rw (list_any-append (λ q. eqb q.0 at) image (p ∷ [])) (mark_if_either_test (list_any (λ q. eqb q.0 at) image) (eqb p.0 at))

pub marks_with_next_address : (image : List (ℕ × ℕ)) (marks : List ℕ) (i : ℕ) (p : ℕ × ℕ) (a : ℕ) → i < length image → p ≡ get_or image i p → a ≡ p.0 → a < length marks → ((at : ℕ) → at < 4096 → get_or marks at 0 ≡ mark (take i image) at)
    → (at : ℕ) → at < 4096 → get_or (slice_set marks a 1) at 0 ≡ mark (take (i + 1) image) at
marks_with_next_address image marks i p a lt is same inside so_far at fits =
    let more : take (i + 1) image ≡ take i image ++ p ∷ [] = take_more image i p lt ∙ ap (λ (q : ℕ × ℕ). take i image ++ q ∷ []) (sym is) in
    let one : mark (take (i + 1) image) at ≡ cond (eqb p.0 at) 1 (mark (take i image) at) = ap (λ l. mark l at) more ∙ mark_with_one_more_byte (take i image) p at in
    elim (cases_eq at a) [
      | inl e ↦ let same_address : eqb p.0 at ≡ true = let k : p.0 ≡ at = omega arith in grind (arith, nat_tests) in get_or-set_at marks a at 1 0 e inside ∙ sym (one ∙ rw same_address refl)
      | inr ne ↦ let other : eqb p.0 at ≡ false = let k : p.0 ≢ at = λ h. ne (sym (same ∙ h)) in grind (arith, nat_tests) in get_or-set_other marks a at 1 0 ne ∙ so_far at fits ∙ sym (one ∙ rw other refl)
    ]

-- ---- packing the marks into bytes

pub byte_of_equal_bits : (f g : ℕ → ℕ) → ((k : ℕ) → k < 8 → f k ≡ g k) → byte_of_bits f ≡ byte_of_bits g
byte_of_equal_bits f g h = rw (h 0 (omega arith), h 1 (omega arith), h 2 (omega arith), h 3 (omega arith), h 4 (omega arith), h 5 (omega arith), h 6 (omega arith), h 7 (omega arith)) refl

pub packed_marks_with_next_byte : (image : List (ℕ × ℕ)) (marks map : List ℕ) (i byte : ℕ) → i < 512 → length map ≡ 512 → ((at : ℕ) → at < 4096 → get_or marks at 0 ≡ mark image at) → byte ≡ byte_of_bits (λ k. get_or marks (8 * i + k) 0)
    → ((j : ℕ) → j < i → get_or map j 0 ≡ byte_of_bits (λ k. mark image (8 * j + k))) → (j : ℕ) → j < i + 1 → get_or (slice_set map i byte) j 0 ≡ byte_of_bits (λ k. mark image (8 * j + k))
packed_marks_with_next_byte image marks map i byte lt len marked is so_far j below =
    elim (cases_eq j i) [
      | inl e ↦
          let here : byte ≡ byte_of_bits (λ k. mark image (8 * i + k)) = is ∙ byte_of_equal_bits (λ k. get_or marks (8 * i + k) 0) (λ k. mark image (8 * i + k)) (λ k small. marked (8 * i + k) (omega arith)) in
          get_or-set_at map i j byte 0 e (omega arith) ∙ here ∙ ap (λ n. byte_of_bits (λ k. mark image (8 * n + k))) (sym e)
      | inr ne ↦ get_or-set_other map i j byte 0 ne ∙ so_far j (omega arith)
    ]

pub packed_marks_are_mark_bytes : (image : List (ℕ × ℕ)) (map : List ℕ) (i : ℕ) → 512 ≤ i → length map ≡ 512 → ((j : ℕ) → j < i → get_or map j 0 ≡ byte_of_bits (λ k. mark image (8 * j + k))) → map ≡ mark_bytes image
unfolding mark_bytes
packed_marks_are_mark_bytes image map i le len so_far = table_of-unique 512 (λ j. byte_of_bits (λ k. mark image (8 * j + k))) map 0 len (λ j lt. so_far j (omega arith))
