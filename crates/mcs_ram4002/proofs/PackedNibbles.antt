-- Nibbles that are stored two to a byte.
use Rattle.std.proofs.Common.{◌≡◌, ℕ, ◌-◌, ◌*◌, ◌/◌, ◌%◌, ◌<◌, inl, inr, List, [], length, get_or, slice_set, slice_index, replicate, refl, sym, ap, ◌∙◌, subst, arith, get_or-set_other}
use Rattle.std.specs.Prelude.{All}
use Rattle.std.proofs.lemmas.Grind.{get_or-set_at}
use Rattle.std.proofs.lemmas.Bool.{cases_eq}
use Rattle.std.proofs.lemmas.List.{get_or-replicate, length-replicate, length-set}
use Rattle.std.proofs.lemmas.List.Elements.{All-from_get_or}
use Rattle.mcs_nibble.specs.Tables.{table_of}
use Rattle.mcs_nibble.proofs.TableLemmas.{get_or-table_of, set-table_of, length-table_of, table_of-unique}
use Rattle.mcs_ram4002.specs.declared.Chip.{Chip}
use Rattle.mcs_ram4002.specs.RamBank.{half_of, unpacked_nibbles, IsSizedChip, IsValidChip}

pub length-unpacked_nibbles : (bytes : List ℕ) → length (unpacked_nibbles bytes) ≡ 2 * length bytes
unfolding unpacked_nibbles
length-unpacked_nibbles bytes = length-table_of (2 * length bytes) _

pub unpacked_nibbles-at_index : (bytes : List ℕ) (k d : ℕ) → k < 2 * length bytes → get_or (unpacked_nibbles bytes) k d ≡ half_of (slice_index bytes (k / 2)) (k % 2)
unfolding unpacked_nibbles
unpacked_nibbles-at_index bytes k d h = get_or-table_of (2 * length bytes) _ k d h

pub unpacked_nibbles-below_16 : (bytes : List ℕ) → All (λ n. n < 16) (unpacked_nibbles bytes)
unpacked_nibbles-below_16 bytes =
    All-from_get_or (λ n. n < 16) (unpacked_nibbles bytes) 0 (λ k l.
    subst (λ n. n < 16) (sym (unpacked_nibbles-at_index bytes k 0 (let e = length-unpacked_nibbles bytes in omega arith))) (omega arith))

-- Replacing one half of a byte replaces one nibble of the unpacked list.
pub unpacked_nibbles-after_set : (bytes : List ℕ) (at n new : ℕ) → at < 2 * length bytes → half_of new (at % 2) ≡ n → half_of new (1 - at % 2) ≡ half_of (slice_index bytes (at / 2)) (1 - at % 2) → unpacked_nibbles (slice_set bytes (at / 2) new) ≡ slice_set (unpacked_nibbles bytes) at n
unfolding unpacked_nibbles
unpacked_nibbles-after_set bytes at n new h is kept =
    let byte_is_new = get_or-set_at bytes (at / 2) (at / 2) new 0 refl (omega arith) in
    let cell = λ (bs : List ℕ) (k : ℕ). half_of (slice_index bs (k / 2)) (k % 2) in
    ap (λ m. table_of (2 * m) (cell (slice_set bytes (at / 2) new))) (length-set bytes (at / 2) new)
    ∙ sym (set-table_of (2 * length bytes) _ (cell (slice_set bytes (at / 2) new)) at n h
    (ap (λ b. half_of b (at % 2)) byte_is_new ∙ is)
    (λ k l ne.
    elim (cases_eq (k / 2) (at / 2)) [
      | inl q ↦
          let other_half_index : k % 2 ≡ 1 - at % 2 = omega arith in
          ap (λ b. half_of b (k % 2)) (get_or-set_at bytes (at / 2) (k / 2) new 0 q (omega arith))
          ∙ ap (half_of new) other_half_index ∙ kept ∙ ap (half_of (slice_index bytes (at / 2))) (sym other_half_index)
          ∙ ap (λ j. half_of (slice_index bytes j) (k % 2)) (sym q)
      | inr f ↦ ap (λ b. half_of b (k % 2)) (get_or-set_other bytes (at / 2) (k / 2) new 0 f)
    ]))

half_of-zero : (k : ℕ) → k < 2 → half_of 0 k ≡ 0
half_of-zero k h =
    elim (cases_eq k 0) [
      | inl z ↦ ap (half_of 0) z
      | inr nz ↦ ap (half_of 0) (let e : k ≡ 1 = omega arith in e)
    ]

pub unpacked_nibbles-of_zeros : (n : ℕ) → unpacked_nibbles (replicate n 0) ≡ replicate (2 * n) 0
unfolding unpacked_nibbles
unpacked_nibbles-of_zeros n =
    let len = length-replicate {A = ℕ} n 0 in
    sym (table_of-unique (2 * length (replicate n 0)) _ (replicate (2 * n) 0) 0 (length-replicate {A = ℕ} (2 * n) 0 ∙ ap (λ m. 2 * m) (sym len))
    (λ k l. get_or-replicate (2 * n) k 0 0 (omega arith) ∙ sym (ap (λ b. half_of b (k % 2)) (get_or-replicate n (k / 2) 0 0 (omega arith)) ∙ half_of-zero (k % 2) (omega arith))))

pub unpacked_nibbles-of_empty_list : (k : ℕ) → slice_index (unpacked_nibbles []) k ≡ 0
unfolding unpacked_nibbles table_of
unpacked_nibbles-of_empty_list k = refl

pub sized_chip-from_lengths : (c : Chip) → length c.main ≡ 32 → length c.status ≡ 8 → IsSizedChip c
sized_chip-from_lengths c main status = record { main = length-unpacked_nibbles c.main ∙ ap (λ n. 2 * n) main; status = length-unpacked_nibbles c.status ∙ ap (λ n. 2 * n) status }

pub valid_chip-from_port : (c : Chip) → c.port < 16 → IsValidChip c
valid_chip-from_port c port = record { main = unpacked_nibbles-below_16 c.main; status = unpacked_nibbles-below_16 c.status; port = port }
