-- Lemmas that show, from the bytes read at an offset of a log, which record starts there, or that
-- no record starts there.
use Rattle.std.proofs.Common.{◌≡◌, ◌≤◌, ◌<◌, ◌+◌, ◌*◌, ◌/◌, ◌%◌, List, [], ◌∷◌, ◌++◌, ℕ, length, take, drop, get_or, refl, sym, ◌∙◌, ap, arith}
use Rattle.std.proofs.lemmas.List.{drop-drop}
use Rattle.std.proofs.Math.Seq.{take-add}
use Rattle.mcs_disk.specs.Disk.{part}
use Rattle.mcs_journal.specs.File.{be16}
use Rattle.mcs_journal.specs.Writing.{IsRecordAt, HasNoRecordAt}
use Rattle.mcs_journal.proofs.ByteRanges.{byte_of_part, part_of_part}

part_of_two_lengths : (at m n : ℕ) (f : List ℕ) → part at (m + n) f ≡ part at m f ++ part (at + m) n f
part_of_two_lengths at m n f = take-add m n (drop at f) ∙ ap (λ (l : List ℕ). part at m f ++ take n l) (drop-drop m at f)

list_of_length_two : (p : List ℕ) → length p ≡ 2 → p ≡ get_or p 0 0 ∷ get_or p 1 0 ∷ []
list_of_length_two [] long = absurd (omega arith)
list_of_length_two (a ∷ []) long = absurd (omega arith)
list_of_length_two (a ∷ b ∷ []) long = refl
list_of_length_two (a ∷ b ∷ c ∷ p) long = absurd (omega arith)

list_of_length_one : (p : List ℕ) → length p ≡ 1 → p ≡ get_or p 0 0 ∷ []
list_of_length_one [] long = absurd (omega arith)
list_of_length_one (a ∷ []) long = refl
list_of_length_one (a ∷ b ∷ p) long = absurd (omega arith)

pub record_at_if_length_is_valid : (f : List ℕ) (at n : ℕ) (commit_byte prefix r : List ℕ) → commit_byte ≡ part at 1 f → length commit_byte ≡ 1 → get_or commit_byte 0 0 ≡ 1 → prefix ≡ part (at + 1) 2 f → length prefix ≡ 2 → get_or prefix 1 0 < 256
    → n ≡ get_or prefix 0 0 * 256 + get_or prefix 1 0 → r ≡ part (at + 3) n f → length r ≡ n → 1 ≤ n → n ≤ 8192 → IsRecordAt f at r
record_at_if_length_is_valid f at n commit_byte prefix r is_commit commit_long opened is_prefix prefix_long low is is_r r_long some few =
    let commit_is : part at 1 f ≡ 1 ∷ [] = sym is_commit ∙ list_of_length_one commit_byte commit_long ∙ ap (λ (x : ℕ). x ∷ []) opened in
    let high_is : get_or prefix 0 0 ≡ length r / 256 = omega (arith, is, r_long, low) in
    let low_is : get_or prefix 1 0 ≡ length r % 256 = omega (arith, is, r_long, low) in
    let prefix_is : part (at + 1) 2 f ≡ be16 (length r) = sym is_prefix ∙ list_of_length_two prefix prefix_long ∙ (λ k. high_is k ∷ low_is k ∷ []) in
    let count : length r + 3 ≡ 1 + (2 + n) = omega (arith, r_long) in
    let shift : at + 1 + 2 ≡ at + 3 = omega arith in
    record {
      valid_length = (omega arith, omega arith);
      is =
          ap (λ (k : ℕ). part at k f) count
          ∙ part_of_two_lengths at 1 (2 + n) f
          ∙ ap (λ (l : List ℕ). part at 1 f ++ l) (part_of_two_lengths (at + 1) 2 n f)
          ∙ ap (λ (k : ℕ). part at 1 f ++ (part (at + 1) 2 f ++ part k n f)) shift
          ∙ (λ k. commit_is k ++ (prefix_is k ++ sym is_r k));
    }

pub no_record_at_if_length_is_invalid : (f : List ℕ) (at room n : ℕ) (commit_byte prefix : List ℕ) → commit_byte ≡ part at 1 f → get_or commit_byte 0 0 ≡ 1 → prefix ≡ part (at + 1) 2 f
    → n ≡ get_or prefix 0 0 * 256 + get_or prefix 1 0 → (1 ≤ n → n ≤ 8192 → n + 4 ≤ room → ⊥) → HasNoRecordAt f at room
no_record_at_if_length_is_invalid f at room n commit_byte prefix is_commit opened is_prefix is not_good =
    let place : at ≡ at + 0 = omega arith in
    record {
      opened = ap (λ (i : ℕ). get_or f i 0) place ∙ sym (byte_of_part at 1 f 0 (omega arith)) ∙ ap (λ (l : List ℕ). get_or l 0 0) (sym is_commit) ∙ opened;
      none = λ r fits next.
          let prefix_is : prefix ≡ be16 (length r) = is_prefix ∙ sym (part_of_part at (length r + 3) 1 2 (length r + 2) f (omega arith) (omega arith)) ∙ ap (part 1 2) next.is in
          let high : get_or prefix 0 0 ≡ length r / 256 = ap (λ (l : List ℕ). get_or l 0 0) prefix_is in
          let low : get_or prefix 1 0 ≡ length r % 256 = ap (λ (l : List ℕ). get_or l 1 0) prefix_is in
          let same : n ≡ length r = omega (arith, high, low, is) in
          let valid_length = next.valid_length in
          not_good (omega (arith, same, valid_length.0)) (omega (arith, same, valid_length.1)) (omega (arith, same, fits));
    }
