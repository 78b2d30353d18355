-- Ten-bit words: the effect of a write and of a shift on their bits, and the list of chain bits
-- that they store.
use Rattle.std.proofs.Common.{◌≡◌, ◌≢◌, ℕ, zero, suc, ◌+◌, ◌-◌, ◌*◌, ◌/◌, ◌%◌, ◌^◌, ◌<◌, ◌≤◌, inl, inr, List, ◌∷◌, ◌++◌, drop, All, Some, None, length, get_or, slice_get, slice_index, slice_set, take, replicate, refl, sym, ap, ◌∙◌, arith, bit_or, bit_and, eqb, if◌then◌else◌, get_or-set_other, subst}
use Rattle.std.proofs.lemmas.Bool.Decides.{nat_tests}
use Rattle.std.proofs.Math.Pow.{pow-lt}
use Rattle.std.proofs.lemmas.Bool.{cases_eq, cases_lt}
use Rattle.std.proofs.lemmas.Grind.{get_or-set_at, common_steps}
use Rattle.std.proofs.lemmas.List.{get_or_past, get_or-replicate, length-replicate, length-set, get_or-take}
use Rattle.std.proofs.lemmas.List.Elements.{All-from_get_or}
use Rattle.std.proofs.lemmas.Nat.{div-add-mod', or_lt, and_le_l, pow-add}
use Rattle.std.proofs.Math.Nat.{div-div-eq-div-mul}
use Rattle.std.proofs.Math.Seq.{take-append_seam}
use Rattle.std.specs.List.{refill}
use Rattle.std.proofs.lemmas.Nat.Bits.{bit_at_lowest, bit_at-suc, bit_at-zero, bit_at-lt, bit_at_cat_low, bit_at_cat_high, shr_and_one}
use Rattle.std.proofs.lemmas.Option.{slice_get-get_or, slice_get_past}
use Rattle.mcs_nibble.specs.Bits.{bit_of}
use Rattle.mcs_nibble.proofs.TableLemmas.{length-table_of, get_or-table_of, table_of-unique, set-table_of}
use Rattle.mcs_shift4003.specs.Packing.{packed_bit, bit_after_shift, chain_bits_of, IsPacked}

-- ---- one word

-- For `j` below 10, the word `1 << j` is a ten-bit word.
pub single_bit-below_1024 : (j : ℕ) → j < 10 → 1 * 2 ^ j % 65536 < 1024
single_bit-below_1024 j h = let e : 2 ^ j < 2 ^ 10 = pow-lt h in omega arith

pub bit_or-below_1024 : (word j : ℕ) → word < 1024 → j < 10 → bit_or word (1 * 2 ^ j % 65536) < 1024
bit_or-below_1024 word j h l = or_lt 10 word (1 * 2 ^ j % 65536) h (single_bit-below_1024 j l)

pub bit_and-below_1024 : (word m : ℕ) → word < 1024 → bit_and word m < 1024
bit_and-below_1024 word m h = let e = and_le_l word m in omega arith

bit_of-remainder : (n k i : ℕ) → i < k → bit_of (n % 2 ^ k) i ≡ bit_of n i
bit_of-remainder n k i h = sym (bit_at_cat_low (n / 2 ^ k) k (n % 2 ^ k) i h) ∙ ap (λ m. bit_of m i) (div-add-mod' n (2 ^ k))

-- After a word is shifted, bit 0 is the level that was shifted in.
bit_0-after_word_shift : (word level : ℕ) → level < 2 → bit_of ((2 * word + level) % 1024) 0 ≡ level
bit_0-after_word_shift word level l = bit_of-remainder (2 * word + level) 10 0 (omega arith) ∙ bit_at_lowest (2 * word + level) ∙ omega arith

-- After a word is shifted, bit `j + 1` is the old bit `j`.
higher_bit-after_word_shift : (word level j : ℕ) → level < 2 → suc j < 10 → bit_of ((2 * word + level) % 1024) (suc j) ≡ bit_of word j
higher_bit-after_word_shift word level j l h =
    let half : (2 * word + level) / 2 ≡ word = omega arith in
    bit_of-remainder (2 * word + level) 10 (suc j) h ∙ bit_at-suc (2 * word + level) j ∙ ap (λ m. bit_of m j) half

quotient_by_512-is_bit_9 : (word : ℕ) → word < 1024 → word / 512 ≡ bit_of word 9
quotient_by_512-is_bit_9 word h = omega arith

-- ---- a list of words

pub words-below_1024_after_set : (words : List ℕ) (at new : ℕ) → new < 1024 → ((k : ℕ) → slice_index words k < 1024) → (k : ℕ) → slice_index (slice_set words at new) k < 1024
words-below_1024_after_set words at new h ten_bits k =
    elim (cases_eq k at) [
      | inl e ↦
          elim (cases_lt at (length words)) [
            | inl l ↦ subst (λ m. m < 1024) (sym (get_or-set_at words at k new 0 e l)) h
            | inr past_end ↦ subst (λ m. m < 1024) (sym (get_or_past (slice_set words at new) k 0 (let e2 = length-set words at new in omega arith))) (omega arith)
          ]
      | inr ne ↦ subst (λ m. m < 1024) (sym (get_or-set_other words at k new 0 ne)) (ten_bits k)
    ]

-- ---- a shift, word by word

-- holds if `new` is the list `old` after its first `k` words were shifted, and `next_level` is the
-- bit to shift into the next word
pub record IsShifted (level : ℕ) (old new : List ℕ) (k next_level : ℕ) : Type 0 where
  pub len : length new ≡ length old
  pub ten_bits : (m : ℕ) → slice_index new m < 1024
  pub bits : (i : ℕ) → i < 10 * k → packed_bit new i ≡ bit_after_shift level old i
  pub unchanged : (m : ℕ) → k ≤ m → slice_index new m ≡ slice_index old m
  pub carry : next_level ≡ bit_after_shift level old (10 * k)
  pub small : next_level < 2

bit_after_shift-of_next_bit : (level : ℕ) (words : List ℕ) (i k : ℕ) → i ≡ k + 1 → bit_after_shift level words i ≡ packed_bit words k
bit_after_shift-of_next_bit level words zero k e = absurd (omega arith)
bit_after_shift-of_next_bit level words (suc i) k e = ap (packed_bit words) (let q : i ≡ k = omega arith in q)

bits-after_word_shift : (level : ℕ) (old : List ℕ) (k carry i j word : ℕ) → carry ≡ bit_after_shift level old (10 * k) → carry < 2 → word ≡ slice_index old k → i ≡ 10 * k + j → j < 10 → bit_of ((2 * word + carry) % 1024) j ≡ bit_after_shift level old i
bits-after_word_shift level old k carry i zero word is small here at h = bit_0-after_word_shift word carry small ∙ is ∙ ap (bit_after_shift level old) (let e : 10 * k ≡ i = omega arith in e)
bits-after_word_shift level old k carry i (suc j) word is small here at h =
    let p : (10 * k + j) / 10 ≡ k = omega arith in
    let q : (10 * k + j) % 10 ≡ j = omega arith in
    higher_bit-after_word_shift word carry j small h
    ∙ ap (λ w. bit_of w j) here
    ∙ sym (ap (λ m. bit_of (slice_index old m) ((10 * k + j) % 10)) p ∙ ap (bit_of (slice_index old k)) q)
    ∙ sym (bit_after_shift-of_next_bit level old i (10 * k + j) (omega arith))

pub shifted-next_word : (level : ℕ) (old new : List ℕ) (k carry word last : ℕ) → IsShifted level old new k carry → k < length old → word ≡ (2 * slice_index new k + carry) % 1024 → last ≡ slice_index new k / 512 → IsShifted level old (slice_set new k word) (k + 1) last
shifted-next_word level old new k carry word last m k_in_words is shifted_out-is =
    let word_unchanged : slice_index new k ≡ slice_index old k = m.unchanged k (omega arith) in
    let within : k < length new = let e = m.len in omega arith in
    let word_below_1024 = m.ten_bits k in
    let at : slice_index (slice_set new k word) k ≡ word = get_or-set_at new k k word 0 refl within in
    record {
      len = length-set new k word ∙ m.len;
      ten_bits = words-below_1024_after_set new k word (omega arith) m.ten_bits;
      bits = λ i l.
          elim (cases_lt i (10 * k)) [
            | inl before ↦
                let ne : i / 10 ≢ k = λ e. omega arith in
                ap (λ w. bit_of w (i % 10)) (get_or-set_other new k (i / 10) word 0 ne) ∙ m.bits i before
            | inr here ↦
                let e : i / 10 ≡ k = omega arith in
                ap (λ n. bit_of (slice_index (slice_set new k word) n) (i % 10)) e
                ∙ ap (λ w. bit_of w (i % 10)) (at ∙ is)
                ∙ bits-after_word_shift level old k carry i (i % 10) (slice_index new k) m.carry m.small word_unchanged (omega arith) (omega arith)
          ];
      unchanged = λ n l. get_or-set_other new k n word 0 (λ e. omega arith) ∙ m.unchanged n (omega arith);
      carry =
          let p : (10 * k + 9) / 10 ≡ k = omega arith in
          let q : (10 * k + 9) % 10 ≡ 9 = omega arith in
          shifted_out-is ∙ quotient_by_512-is_bit_9 (slice_index new k) word_below_1024 ∙ ap (λ w. bit_of w 9) word_unchanged
          ∙ sym (ap (λ n. bit_of (slice_index old n) ((10 * k + 9) % 10)) p ∙ ap (bit_of (slice_index old k)) q)
          ∙ sym (bit_after_shift-of_next_bit level old (10 * (k + 1)) (10 * k + 9) (omega arith));
      small = omega arith;
    }

-- A bit past the last word is 0.
packed_bit-past_last_word : (words : List ℕ) (i : ℕ) → 10 * length words ≤ i → packed_bit words i ≡ 0
packed_bit-past_last_word words i past_end = ap (λ w. bit_of w (i % 10)) (get_or_past words (i / 10) 0 (omega arith)) ∙ bit_at-zero (i % 10)

shifted_bit-past_chain_end : (bits level : ℕ) (old new : List ℕ) (i : ℕ) → IsPacked bits old → length new ≡ length old → ((k : ℕ) → k < 10 * length old → packed_bit new k ≡ bit_after_shift level old k) → bits < i → packed_bit new i ≡ 0
shifted_bit-past_chain_end bits level old new zero p len moved h = absurd (omega arith)
shifted_bit-past_chain_end bits level old new (suc i) p len moved h =
    elim (cases_lt (suc i) (10 * length old)) [
      | inl l ↦ moved (suc i) l ∙ p.past i (omega arith)
      | inr past_end ↦ packed_bit-past_last_word new (suc i) (omega arith)
    ]

-- If the first bit past the end of the chain is cleared after a shift, all bits past the end are 0.
pub packed-after_clearing_end : (bits level : ℕ) (old new last : List ℕ) → IsPacked bits old → length new ≡ length old → ((k : ℕ) → slice_index last k < 1024) → length last ≡ length new → ((i : ℕ) → i < 10 * length old → packed_bit new i ≡ bit_after_shift level old i) → packed_bit last bits ≡ 0 → ((k : ℕ) → k ≢ bits → packed_bit last k ≡ packed_bit new k) → IsPacked bits last
packed-after_clearing_end bits level old new last p len ten_bits len2 moved end_zero others = record {
  used = len2 ∙ len ∙ p.used;
  ten_bits = ten_bits;
  past = λ i h.
      elim (cases_eq i bits) [
        | inl e ↦ ap (packed_bit last) e ∙ end_zero
        | inr ne ↦ others i ne ∙ shifted_bit-past_chain_end bits level old new i p len moved (omega arith)
      ];
}

-- ---- the list of chain bits

pub length-chain_bits_of : (bits : ℕ) (words : List ℕ) → length (chain_bits_of bits words) ≡ bits
unfolding chain_bits_of
length-chain_bits_of bits words = length-table_of bits (packed_bit words)

pub chain_bit-at_index : (bits : ℕ) (words : List ℕ) (i d : ℕ) → i < bits → get_or (chain_bits_of bits words) i d ≡ packed_bit words i
unfolding chain_bits_of
chain_bit-at_index bits words i d h = get_or-table_of bits (packed_bit words) i d h

-- Reading index `i` of the list of chain bits gives bit `i` of the words. Past the end of the
-- chain, both values are 0.
pub chain_bit-at_any_index : (bits : ℕ) (words : List ℕ) (i : ℕ) → IsPacked bits words → slice_index (chain_bits_of bits words) i ≡ packed_bit words i
chain_bit-at_any_index bits words i p =
    elim (cases_lt i bits) [
      | inl h ↦ chain_bit-at_index bits words i 0 h
      | inr past_end ↦ get_or_past (chain_bits_of bits words) i 0 (let e = length-chain_bits_of bits words in omega arith) ∙ sym (p.past i past_end)
    ]

pub slice_get-chain_bits_of : (bits : ℕ) (words : List ℕ) (i : ℕ) → i < bits → Some (packed_bit words i) ≡ slice_get (chain_bits_of bits words) i
slice_get-chain_bits_of bits words i h = ap Some (sym (chain_bit-at_index bits words i 0 h)) ∙ sym (slice_get-get_or (chain_bits_of bits words) i 0 (let e = length-chain_bits_of bits words in omega arith))

pub no_chain_bit-past_end : (bits : ℕ) (words : List ℕ) (i : ℕ) → bits ≤ i → None ≡ slice_get (chain_bits_of bits words) i
no_chain_bit-past_end bits words i h = sym (slice_get_past (chain_bits_of bits words) i (let e = length-chain_bits_of bits words in omega arith))

pub chain_bits-below_2 : (bits : ℕ) (words : List ℕ) → All (λ bit. bit < 2) (chain_bits_of bits words)
chain_bits-below_2 bits words =
    All-from_get_or (λ bit. bit < 2) (chain_bits_of bits words) 0 (λ i l.
    subst (λ bit. bit < 2) (sym (chain_bit-at_index bits words i 0 (let e = length-chain_bits_of bits words in omega arith))) (bit_at-lt (slice_index words (i / 10)) (i % 10)))

-- If all words of a list are 0, each bit that they store is 0.
packed_bit-zeros : (n i : ℕ) → packed_bit (replicate n 0) i ≡ 0
packed_bit-zeros n i =
    elim (cases_lt (i / 10) n) [
      | inl l ↦ ap (λ w. bit_of w (i % 10)) (get_or-replicate n (i / 10) 0 0 l) ∙ bit_at-zero (i % 10)
      | inr past_end ↦ ap (λ w. bit_of w (i % 10)) (get_or_past (replicate n 0) (i / 10) 0 (let e = length-replicate {A = ℕ} n 0 in omega arith)) ∙ bit_at-zero (i % 10)
    ]

pub chain_bits_of-zeros : (bits n : ℕ) → chain_bits_of bits (replicate n 0) ≡ replicate bits 0
unfolding chain_bits_of
chain_bits_of-zeros bits n = sym (table_of-unique bits (packed_bit (replicate n 0)) (replicate bits 0) 0 (length-replicate {A = ℕ} bits 0) (λ k l. get_or-replicate bits k 0 0 l ∙ sym (packed_bit-zeros n k)))

-- If one bit of the words is replaced, the same bit of the list of chain bits is replaced.
pub chain_bits-after_set : (bits : ℕ) (words new : List ℕ) (i level : ℕ) → i < bits → packed_bit new i ≡ level → ((k : ℕ) → k ≢ i → packed_bit new k ≡ packed_bit words k) → chain_bits_of bits new ≡ slice_set (chain_bits_of bits words) i level
unfolding chain_bits_of
chain_bits-after_set bits words new i level h at others = sym (set-table_of bits (packed_bit words) (packed_bit new) i level h at (λ k _ ne. others k ne))

pub packed-after_set : (bits : ℕ) (words new : List ℕ) (i : ℕ) → IsPacked bits words → i < bits → length new ≡ length words → ((k : ℕ) → slice_index new k < 1024) → ((k : ℕ) → k ≢ i → packed_bit new k ≡ packed_bit words k) → IsPacked bits new
packed-after_set bits words new i p h len ten_bits others = record {
  used = len ∙ p.used;
  ten_bits = ten_bits;
  past = λ k l. others k (λ e. omega arith) ∙ p.past k l;
}

-- In the list of `level` followed by the chain bits, element `k` is the value that a shift moves
-- into bit `k`.
prepended_level-at_index : (bits level : ℕ) (words : List ℕ) (k : ℕ) → k < bits → get_or (level ∷ chain_bits_of bits words) k 0 ≡ bit_after_shift level words k
prepended_level-at_index bits level words zero h = refl
prepended_level-at_index bits level words (suc k) h = chain_bit-at_index bits words k 0 (omega arith)

pub chain_bits-after_shift : (bits level : ℕ) (old new : List ℕ) → ((i : ℕ) → i < bits → packed_bit new i ≡ bit_after_shift level old i) → chain_bits_of bits new ≡ take (length (chain_bits_of bits old)) (level ∷ chain_bits_of bits old)
unfolding chain_bits_of
chain_bits-after_shift bits level old new moved =
    let len = length-chain_bits_of bits old in
    let taken_length : length (take (length (chain_bits_of bits old)) (level ∷ chain_bits_of bits old)) ≡ bits = grind (arith, common_steps) in
    sym (table_of-unique bits (packed_bit new) (take (length (chain_bits_of bits old)) (level ∷ chain_bits_of bits old)) 0 taken_length (λ k l.
    get_or-take (length (chain_bits_of bits old)) (level ∷ chain_bits_of bits old) k 0 (omega arith) ∙ prepended_level-at_index bits level old k l ∙ sym (moved k l)))

-- ---- ten bits that start at a given bit

bit_of-quotient : (n s j : ℕ) → bit_of (n / 2 ^ s) j ≡ bit_of n (s + j)
bit_of-quotient n s j = ap (λ m. m % 2) (div-div-eq-div-mul n (2 ^ s) (2 ^ j) ∙ ap (λ m. n / m) (sym (pow-add 2 s j)))

pub ten_bits-from_two_words : (words : List ℕ) (first low high j : ℕ) → low ≡ slice_index words (first / 10) → high ≡ slice_index words (first / 10 + 1) → low < 1024 → j < 10 → bit_of ((high * 1024 + low) / 2 ^ (first % 10) % 1024) j ≡ packed_bit words (first + j)
ten_bits-from_two_words words first low high j is-low is-high small h =
    let s = first % 10 in
    bit_of-remainder ((high * 1024 + low) / 2 ^ s) 10 j h
    ∙ bit_of-quotient (high * 1024 + low) s j
    ∙ elim (cases_lt (s + j) 10) [
      | inl l ↦
          let p : first / 10 ≡ (first + j) / 10 = omega arith in
          let q : s + j ≡ (first + j) % 10 = omega arith in
          bit_at_cat_low high 10 low (s + j) l ∙ ap (λ w. bit_of w (s + j)) (is-low ∙ ap (slice_index words) p) ∙ ap (bit_of (slice_index words ((first + j) / 10))) q
      | inr l ↦
          let p : first / 10 + 1 ≡ (first + j) / 10 = omega arith in
          let q : s + j - 10 ≡ (first + j) % 10 = omega arith in
          bit_at_cat_high high 10 low (s + j) small l ∙ ap (λ w. bit_of w (s + j - 10)) (is-high ∙ ap (slice_index words) p) ∙ ap (bit_of (slice_index words ((first + j) / 10))) q
    ]

-- If the number of new elements is the length of the list, `refill` returns the new elements.
pub refill-all : (old new : List ℕ) → length new ≡ length old → refill (length old) old new ≡ new
refill-all old new len = ap (λ n. take n (new ++ drop (length new) old)) (sym len) ∙ take-append_seam new (drop (length new) old)

-- Testing whether bit `j` of a word is 1 gives the value of this bit.
pub tested_bit-equals_bit_of : (word j : ℕ) → (if eqb (bit_and (word / 2 ^ j) 1) 1 then 1 else 0) ≡ bit_of word j
tested_bit-equals_bit_of word j =
    let e = shr_and_one word j in
    let l = bit_at-lt word j in
    grind (arith, nat_tests)
