-- At most as many lines of a port are pulled to 1 as keys are down.
use Rattle.std.proofs.Common.{◌≡◌, ◌<◌, ◌≤◌, ◌+◌, ◌*◌, ◌/◌, ◌%◌, ℕ, inl, inr, Bool, true, false, List, [], Option, Some, None, length, slice_index, slice_index_or, slice_set, eqb, refl, sym, ap, ◌∙◌, arith, get_or-set_other}
use Rattle.std.specs.List.{list_any, range_with_len, sum}
use Rattle.std.proofs.lemmas.Bool.{and_parts, cases_lt, eqb-true}
use Rattle.std.proofs.lemmas.List.{get_or_past}
use Rattle.std.proofs.lemmas.List.Folds.{Any-from_list_any}
use Rattle.std.proofs.lemmas.List.FromFn.{get_or-range_with_len, length-range_with_len}
use Rattle.std.proofs.lemmas.List.Sums.{sum_by-set}
use Rattle.std.proofs.lemmas.Nat.{mod-mul-add}
use Rattle.mcs_nibble.specs.declared.lines.LineMask.{LineMask}
use Rattle.mcs_nibble.specs.declared.lines.LineMask.TheVariants.{Input, Zero, One}
use Rattle.mcs_nibble.specs.Ports.{mask_at, read_bit, read_lines}
use Rattle.mcs_model.specs.declared.board.KeyMatrix.{KeyMatrix}
use Rattle.mcs_model.specs.declared.board.Line.{Line}
use Rattle.mcs_model.specs.declared.board.Line.TheVariants.{Rom, Ram, Chain}
use Rattle.mcs_model.specs.Boards.{rom_masks}
use Rattle.mcs_model.specs.Bus.{BusState}
use Rattle.mcs_model.specs.Levels.{bit_when, row_drives_column, is_pulled, is_pulled_by, is_rom_line, port_at, port_of}
use Rattle.mcs_drive.specs.DrivenRuns.{Levels}
use Rattle.mcs_drive.proofs.LevelLemmas.{at_levels}
use Rattle.mcs_check.specs.ReadPoints.{set_bits, unpressed_port_value}
use Rattle.mcs_check.proofs.Pulling.{bits, bit_when-lt, bit_when-monotone, read_bit-lt}
use Rattle.mcs_check.proofs.Ranging.{some_number_passes}

-- ---- a key that pulls a line

some_number : (p : ℕ → Bool) (n : ℕ) → list_any p (range_with_len 0 n) ≡ true → (i : ℕ) × (i < n) × (p i ≡ true)
some_number p n e =
    let any = Any-from_list_any p (range_with_len 0 n) e in
    let len = length-range_with_len 0 n in
    let within : any.0 < n = (let inside = any.2 in omega arith) in
    let at : any.1 ≡ any.0 = sym any.3 ∙ get_or-range_with_len 0 n any.0 any.1 within ∙ (let e : 0 + any.0 ≡ any.0 = omega arith in e) in
    (any.0, within, ap p (sym at) ∙ any.4)

-- holds if the key at `row` and `column` of a matrix pulls line `k` of ROM `chip`
record Pulls (chain keys : List ℕ) (m : KeyMatrix) (chip k row column : ℕ) : Type 0 where
  row_inside : row < m.rows
  column_inside : column < length m.columns.items
  line : is_rom_line chip k (slice_index_or m.columns.items column (Rom 0 0)) ≡ true
  drives : row_drives_column chain keys m column row ≡ true

pulling-key : (chain keys : List ℕ) (m : KeyMatrix) (chip k : ℕ) → is_pulled_by chain keys m chip k ≡ true → (row column : ℕ) × Pulls chain keys m chip k row column
pulling-key chain keys m chip k e =
    let column = some_number _ (length m.columns.items) e in
    let parts = and_parts (is_rom_line chip k (slice_index_or m.columns.items column.0 (Rom 0 0))) _ column.2 in
    let row = some_number (row_drives_column chain keys m column.0) m.rows parts.1 in
    (row.0, column.0, record { row_inside = row.1; column_inside = column.1; line = parts.0; drives = row.2 })

pulled-by_key : (chain keys : List ℕ) (m : KeyMatrix) (chip k row column : ℕ) → Pulls chain keys m chip k row column → is_pulled_by chain keys m chip k ≡ true
pulled-by_key chain keys m chip k row column h =
    some_number_passes _ (length m.columns.items) column h.column_inside
    (rw (h.line, some_number_passes (row_drives_column chain keys m column) m.rows row h.row_inside h.drives) refl)

-- a line cannot be two different lines of a ROM
line-number-unique : (chip j k : ℕ) (line : Line) → is_rom_line chip j line ≡ true → is_rom_line chip k line ≡ true → j ≡ k
line-number-unique chip j k (Rom c i) h g =
    let first = eqb-true i j (and_parts (eqb c chip) (eqb i j) h).1 in
    let second = eqb-true i k (and_parts (eqb c chip) (eqb i k) g).1 in
    sym first ∙ second
line-number-unique chip j k (Ram b c i) h g = absurd (cc)
line-number-unique chip j k (Chain n i) h g = absurd (cc)

-- the key that pulls a line still pulls it after a key of another column is released
still-pulls : (chain keys : List ℕ) (m : KeyMatrix) (chip k row column other_row other_column : ℕ) → other_column < length m.columns.items → (other_column ≡ column → ⊥) → Pulls chain keys m chip k row column →
    Pulls chain (slice_set keys (other_row * length m.columns.items + other_column) 0) m chip k row column
still-pulls chain keys m chip k row column other_row other_column inside apart h =
    let n = length m.columns.items in
    let place = other_row * n + other_column in
    let mine = row * n + column in
    let differ : mine ≡ place → ⊥ = λ e. apart (sym (mod-mul-add other_row n other_column inside) ∙ ap (λ (i : ℕ). i % n) (sym e) ∙ mod-mul-add row n column h.column_inside) in
    let parts = and_parts (eqb (slice_index chain (m.first + row)) 1) (eqb (slice_index keys mine) 1) h.drives in
    let kept : slice_index (slice_set keys place 0) mine ≡ slice_index keys mine = get_or-set_other keys place mine 0 0 differ in
    record { row_inside = h.row_inside; column_inside = h.column_inside; line = h.line; drives = rw (parts.0, kept, parts.1) refl }

-- ---- one line after the other

-- Holds if the key levels `fewer` pull every line except `k` that `keys` pull. If `keys` pull line
-- `k`, `fewer` must have at least one key fewer down.
record Released (chain keys : List ℕ) (m : KeyMatrix) (chip k : ℕ) (fewer : List ℕ) : Type 0 where
  less : sum fewer + bit_when (is_pulled_by chain keys m chip k) ≤ sum keys
  others : (j : ℕ) → (j ≡ k → ⊥) → is_pulled_by chain keys m chip j ≡ true → is_pulled_by chain fewer m chip j ≡ true

sum-without_key : (keys : List ℕ) (place : ℕ) → eqb (slice_index keys place) 1 ≡ true → sum (slice_set keys place 0) + 1 ≡ sum keys
sum-without_key keys place e =
    let one : slice_index keys place ≡ 1 = eqb-true _ _ e in
    elim (cases_lt place (length keys)) [
      | inl within ↦ (let total = sum_by-set (λ x. x) keys place 0 0 within in omega arith)
      | inr past ↦ (let none = get_or_past keys place 0 past in absurd (omega arith))
    ]

released : (chain keys : List ℕ) (m : KeyMatrix) (chip k : ℕ) (b : Bool) → is_pulled_by chain keys m chip k ≡ b → (fewer : List ℕ) × Released chain keys m chip k fewer
released chain keys m chip k false e = (keys, record { less = rw e (omega arith); others = λ j apart pulled. pulled })
released chain keys m chip k true e =
    let key = pulling-key chain keys m chip k e in
    let n = length m.columns.items in
    let row = key.0 in
    let column = key.1 in
    let pulls = key.2 in
    let place = row * n + column in
    let parts = and_parts (eqb (slice_index chain (m.first + row)) 1) (eqb (slice_index keys place) 1) pulls.drives in
    let total = sum-without_key keys place parts.1 in (
      slice_set keys place 0,
      record {
        less = rw e (omega arith);
        others = λ j apart pulled.
            let other = pulling-key chain keys m chip j pulled in
            let columns-differ : column ≡ other.1 → ⊥ = λ same.
            apart (line-number-unique chip j k (slice_index_or m.columns.items column (Rom 0 0)) (ap (λ (i : ℕ). is_rom_line chip j (slice_index_or m.columns.items i (Rom 0 0))) same ∙ other.2.line) pulls.line) in
            pulled-by_key chain (slice_set keys place 0) m chip j other.0 other.1 (still-pulls chain keys m chip j other.0 other.1 row column pulls.column_inside columns-differ other.2);
      },
    )

at-most-sum : (s a b c d k0 k1 k2 k3 l1 l2 l3 : ℕ) → a + k0 ≤ s → b + l1 ≤ a → c + l2 ≤ b → d + l3 ≤ c → k1 ≤ l1 → k2 ≤ l2 → k3 ≤ l3 → k0 + k1 + k2 + k3 ≤ s
at-most-sum s a b c d k0 k1 k2 k3 l1 l2 l3 ha hb hc hd h1 h2 h3 = omega arith

-- at most as many lines of ROM `chip` are pulled as keys are down
pulled-at-most-keys-of_matrix : (chain keys : List ℕ) (m : KeyMatrix) (chip : ℕ) →
    bit_when (is_pulled_by chain keys m chip 0) + bit_when (is_pulled_by chain keys m chip 1) + bit_when (is_pulled_by chain keys m chip 2) + bit_when (is_pulled_by chain keys m chip 3) ≤ sum keys
pulled-at-most-keys-of_matrix chain keys m chip =
    let p : List ℕ → ℕ → Bool = λ xs k. is_pulled_by chain xs m chip k in
    let a = released chain keys m chip 0 (p keys 0) refl in
    let b = released chain a.0 m chip 1 (p a.0 1) refl in
    let c = released chain b.0 m chip 2 (p b.0 2) refl in
    let d = released chain c.0 m chip 3 (p c.0 3) refl in
    let kept-1 = bit_when-monotone (p keys 1) (p a.0 1) (a.1.others 1 (λ e. absurd (omega arith))) in
    let kept-2 = bit_when-monotone (p keys 2) (p b.0 2) (λ e. b.1.others 2 (λ e. absurd (omega arith)) (a.1.others 2 (λ e. absurd (omega arith)) e)) in
    let kept-3 = bit_when-monotone (p keys 3) (p c.0 3) (λ e. c.1.others 3 (λ e. absurd (omega arith)) (b.1.others 3 (λ e. absurd (omega arith)) (a.1.others 3 (λ e. absurd (omega arith)) e))) in
    at-most-sum (sum keys) (sum a.0) (sum b.0) (sum c.0) (sum d.0) (bit_when (p keys 0)) (bit_when (p keys 1)) (bit_when (p keys 2)) (bit_when (p keys 3)) (bit_when (p a.0 1)) (bit_when (p b.0 2)) (bit_when (p c.0 3)) a.1.less b.1.less c.1.less d.1.less kept-1 kept-2 kept-3

-- ---- the value at a port

pulled-at-most-keys_by_cases : (chains : List (List ℕ)) (keys : List ℕ) (o : Option KeyMatrix) (chip : ℕ) (p : ℕ → Bool) → ((k : ℕ) → p k ≡ elim o as (λ _. Bool) [ None ↦ false | Some m ↦ is_pulled_by (slice_index_or chains m.chain []) keys m chip k ]) →
    bit_when (p 0) + bit_when (p 1) + bit_when (p 2) + bit_when (p 3) ≤ sum keys
pulled-at-most-keys_by_cases chains keys None chip p is = rw (is 0, is 1, is 2, is 3) (omega arith)
pulled-at-most-keys_by_cases chains keys (Some m) chip p is = rw (is 0, is 1, is 2, is 3) (pulled-at-most-keys-of_matrix (slice_index_or chains m.chain []) keys m chip)

pulled-at-most-keys : (s : BusState) (chip : ℕ) → bit_when (is_pulled s chip 0) + bit_when (is_pulled s chip 1) + bit_when (is_pulled s chip 2) + bit_when (is_pulled s chip 3) ≤ sum s.keys
unfolding is_pulled
pulled-at-most-keys s chip = pulled-at-most-keys_by_cases s.chains s.keys s.board.keys chip (λ k. is_pulled s chip k) (λ k. refl)

-- a line reads 1 only if it is pulled or reads 1 with no key pressed
read_bit-at-most : (f : ℕ → ℕ) (mask : List LineMask) (k : ℕ) → read_bit f mask k ≤ read_bit (λ j. 0) mask k + f k
read_bit-at-most f mask k =
    elim (mask_at mask k) as (λ m. elim m as (λ _. ℕ) [ Input ↦ f k | Zero ↦ 0 | One ↦ 1 ] ≤ elim m as (λ _. ℕ) [ Input ↦ 0 | Zero ↦ 0 | One ↦ 1 ] + f k) [ Input ↦ omega arith | Zero ↦ omega arith | One ↦ omega arith ]

set_bits-of_lines : (f : ℕ → ℕ) (mask : List LineMask) → ((k : ℕ) → f k < 2) → set_bits (read_lines f mask) ≡ read_bit f mask 0 + read_bit f mask 1 + read_bit f mask 2 + read_bit f mask 3
unfolding read_lines
set_bits-of_lines f mask small =
    let low : (k : ℕ) → read_bit f mask k < 2 = λ k. read_bit-lt f mask k (small k) in
    let b = bits (read_bit f mask 0) (read_bit f mask 1) (read_bit f mask 2) (read_bit f mask 3) (low 0) (low 1) (low 2) (low 3) in
    rw (b.at_0, b.at_1, b.at_2, b.at_3) refl

eight-terms : (a b c d x y z w k l m n s : ℕ) → a ≤ x + k → b ≤ y + l → c ≤ z + m → d ≤ w + n → k + l + m + n ≤ s → a + b + c + d ≤ x + y + z + w + s
eight-terms a b c d x y z w k l m n s ha hb hc hd h = omega arith

set_bits-at-most_by_cases : (p : ℕ → Bool) (o : Option (List LineMask)) (s : ℕ) → bit_when (p 0) + bit_when (p 1) + bit_when (p 2) + bit_when (p 3) ≤ s →
    set_bits (elim o as (λ _. ℕ) [ Some mask ↦ read_lines (λ k. bit_when (p k)) mask | None ↦ 0 ]) ≤ set_bits (elim o as (λ _. ℕ) [ Some mask ↦ read_lines (λ k. 0) mask | None ↦ 0 ]) + s
set_bits-at-most_by_cases p None s h = omega arith
set_bits-at-most_by_cases p (Some mask) s h =
    let f : ℕ → ℕ = λ k. bit_when (p k) in
    let g : ℕ → ℕ = λ k. 0 in
    rw (set_bits-of_lines f mask (λ k. bit_when-lt (p k)), set_bits-of_lines g mask (λ k. omega arith))
    (eight-terms (read_bit f mask 0) (read_bit f mask 1) (read_bit f mask 2) (read_bit f mask 3) (read_bit g mask 0) (read_bit g mask 1) (read_bit g mask 2) (read_bit g mask 3) (f 0) (f 1) (f 2) (f 3) s
    (read_bit-at-most f mask 0) (read_bit-at-most f mask 1) (read_bit-at-most f mask 2) (read_bit-at-most f mask 3) h)

-- at any input levels, the selected ROM's port reads 1 on at most as many lines as keys are down,
-- besides the lines that read 1 with no key pressed
pub port_bits-at_most_keys_down : (l : Levels) (s : BusState) → set_bits (port_of (at_levels l s)) ≤ set_bits (unpressed_port_value s) + sum l.keys
unfolding port_at
port_bits-at_most_keys_down l s =
    let chip = s.rom_src / 16 in
    set_bits-at-most_by_cases (λ k. is_pulled (at_levels l s) chip k) (rom_masks s.board chip) (sum l.keys) (pulled-at-most-keys (at_levels l s) chip)
