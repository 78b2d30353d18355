-- The columns that the key rows drive, and the ROM lines that these columns pull.
use Rattle.std.proofs.Common.{◌≡◌, ◌≢◌, ℕ, ◌+◌, ◌*◌, ◌/◌, ◌-◌, ◌%◌, ◌^◌, ◌<◌, ◌≤◌, zero, suc, Bool, ◌&&◌, ◌||◌, List, length, slice_index, bit_or, refl, sym, ap, subst, ◌∙◌, arith, eq-eqb}
use Rattle.std.specs.List.{range_with_len, list_any}
use Rattle.std.proofs.Math.Nat.{div-div-eq-div-mul}
use Rattle.std.proofs.lemmas.Nat.{pow-add}
use Rattle.std.proofs.lemmas.Nat.Bits.{bit_at-zero}
use Rattle.std.proofs.lemmas.Bool.{ne_eqb}
use Rattle.std.proofs.Math.Bool.{or-false}
use Rattle.mcs_nibble.specs.Bits.{bit_of}
use Rattle.mcs_model.specs.declared.board.KeyMatrix.{KeyMatrix}
use Rattle.mcs_model.specs.Levels.{row_drives_column}
use Rattle.mcs_keypad.specs.Keys.{IsColumnMask, is_down, column_is_connected_to}
use Rattle.mcs_keypad.proofs.ColumnMasks.{mask-of_bit_or, mask-of_equal_test, any-below_next_number}

-- true if at least one of the first `r` rows drives column `j`
abbrev is_driven_by_first_rows : List ℕ → List ℕ → KeyMatrix → ℕ → ℕ → Bool
is_driven_by_first_rows bits down m r j = list_any (row_drives_column bits down m j) (range_with_len 0 r)

pub driven_mask-after_driving_row : (bits down : List ℕ) (m : KeyMatrix) (driven_columns new row r : ℕ) → IsColumnMask driven_columns (length m.columns.items) (is_driven_by_first_rows bits down m r) → IsColumnMask row (length m.columns.items) (λ j. is_down down (r * length m.columns.items + j)) → slice_index bits (m.first + r) ≡ 1 → new ≡ bit_or driven_columns row → IsColumnMask new (length m.columns.items) (is_driven_by_first_rows bits down m (r + 1))
driven_mask-after_driving_row bits down m driven_columns new row r x y high e =
    rw e (mask-of_equal_test (bit_or driven_columns row) (length m.columns.items) (λ j. is_driven_by_first_rows bits down m r j || is_down down (r * length m.columns.items + j)) (is_driven_by_first_rows bits down m (r + 1))
    (λ j. ap (λ t. is_driven_by_first_rows bits down m r j || (t && is_down down (r * length m.columns.items + j))) (sym (eq-eqb (slice_index bits (m.first + r)) 1 high)) ∙ sym (any-below_next_number (row_drives_column bits down m j) r))
    (mask-of_bit_or driven_columns row (length m.columns.items) (is_driven_by_first_rows bits down m r) (λ j. is_down down (r * length m.columns.items + j)) x y))

pub driven_mask-after_idle_row : (bits down : List ℕ) (m : KeyMatrix) (driven_columns new r : ℕ) → IsColumnMask driven_columns (length m.columns.items) (is_driven_by_first_rows bits down m r) → slice_index bits (m.first + r) ≢ 1 → new ≡ driven_columns → IsColumnMask new (length m.columns.items) (is_driven_by_first_rows bits down m (r + 1))
driven_mask-after_idle_row bits down m driven_columns new r x low e =
    rw e (mask-of_equal_test driven_columns (length m.columns.items) (is_driven_by_first_rows bits down m r) (is_driven_by_first_rows bits down m (r + 1))
    (λ j. sym (or-false (is_driven_by_first_rows bits down m r j)) ∙ ap (λ t. is_driven_by_first_rows bits down m r j || (t && is_down down (r * length m.columns.items + j))) (sym (ne_eqb (slice_index bits (m.first + r)) 1 low)) ∙ sym (any-below_next_number (row_drives_column bits down m j) r))
    x)

-- The mask at index `4 * chip + k` is the mask of line `k` of ROM `chip`.
pub mask-of_rom_line : (m : KeyMatrix) (line chip k i : ℕ) → i ≡ 4 * chip + k → k < 4 → IsColumnMask line (length m.columns.items) (column_is_connected_to m (i / 4) (i % 4)) → IsColumnMask line (length m.columns.items) (column_is_connected_to m chip k)
mask-of_rom_line m line chip k i at small x =
    let a : i / 4 ≡ chip = omega arith in
    let b : i % 4 ≡ k = omega arith in
    mask-of_equal_test line (length m.columns.items) (column_is_connected_to m (i / 4) (i % 4)) (column_is_connected_to m chip k) (λ j. ap (λ c. column_is_connected_to m c (i % 4) j) a ∙ ap (λ c. column_is_connected_to m chip c j) b) x

pub nibble-equal : (a b c d a' b' c' d' : ℕ) → a ≡ a' → b ≡ b' → c ≡ c' → d ≡ d' → a + 2 * b + 4 * c + 8 * d ≡ a' + 2 * b' + 4 * c' + 8 * d'
nibble-equal a b c d a' b' c' d' ea eb ec ed = rw (ea, eb, ec, ed) refl

-- If the chain bits of the next `d` rows are 0, these rows drive no further columns.
pub driven_mask-after_idle_rows : (bits down : List ℕ) (m : KeyMatrix) (driven_columns r d : ℕ) → IsColumnMask driven_columns (length m.columns.items) (is_driven_by_first_rows bits down m r) → ((k : ℕ) → r ≤ k → k < r + d → slice_index bits (m.first + k) ≡ 0) → IsColumnMask driven_columns (length m.columns.items) (is_driven_by_first_rows bits down m (r + d))
driven_mask-after_idle_rows bits down m driven_columns r zero x low = subst (λ n. IsColumnMask driven_columns (length m.columns.items) (is_driven_by_first_rows bits down m n)) (let e : r ≡ r + 0 = omega arith in e) x
driven_mask-after_idle_rows bits down m driven_columns r (suc d) x low =
    let before = driven_mask-after_idle_rows bits down m driven_columns r d x (λ k l h. low k l (omega arith)) in
    let idle = driven_mask-after_idle_row bits down m driven_columns driven_columns (r + d) before (λ e. let z = low (r + d) (omega arith) (omega arith) in omega arith) refl in
    subst (λ n. IsColumnMask driven_columns (length m.columns.items) (is_driven_by_first_rows bits down m n)) (let e : r + d + 1 ≡ r + suc d = omega arith in e) idle

-- If shifting a number right by `r` bits gives 0, bit `r` and all bits above it are 0.
bit-zero_if_shifted_out : (n r j : ℕ) → n / 2 ^ r ≡ 0 → bit_of n (r + j) ≡ 0
bit-zero_if_shifted_out n r j none = ap (λ m. n / m % 2) (pow-add 2 r j) ∙ ap (λ m. m % 2) (sym (div-div-eq-div-mul n (2 ^ r) (2 ^ j))) ∙ ap (λ m. bit_of m j) none ∙ bit_at-zero j

pub bits-zero_above_shift : (n r k : ℕ) → n / 2 ^ r ≡ 0 → r ≤ k → bit_of n k ≡ 0
bits-zero_above_shift n r k none l = ap (bit_of n) (let e : k ≡ r + (k - r) = omega arith in e) ∙ bit-zero_if_shifted_out n r (k - r) none

-- Shifting a number right by `r` bits and halving the result shifts the number right by `r + 1`
-- bits.
pub shifted_right-halved : (n r : ℕ) → n / 2 ^ r / 2 ≡ n / 2 ^ (r + 1)
shifted_right-halved n r = div-div-eq-div-mul n (2 ^ r) 2 ∙ ap (λ m. n / m) (sym (pow-add 2 r 1))
