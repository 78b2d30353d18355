-- A line of a port that reads 1 at input levels within the limits also reads 1 with each key at its
-- highest level.
use Rattle.std.proofs.Common.{◌≡◌, ◌<◌, ◌≤◌, ◌+◌, ◌*◌, ◌/◌, ℕ, Bool, true, false, ◌&&◌, ◌||◌, List, [], ◌∷◌, Option, Some, None, length, slice_index, slice_index_or, eqb, refl, sym, ap, subst, ◌∙◌, arith}
use Rattle.std.specs.List.{list_any, range_with_len}
use Rattle.std.proofs.lemmas.Bool.{le-leb, eqb-true, eq-eqb}
use Rattle.mcs_nibble.specs.declared.lines.LineMask.{LineMask}
use Rattle.mcs_nibble.specs.declared.lines.LineMask.TheVariants.{Input, Zero, One}
use Rattle.mcs_nibble.specs.Bits.{bit_of}
use Rattle.mcs_nibble.specs.Ports.{mask_at, read_bit, read_lines}
use Rattle.mcs_model.specs.declared.board.KeyMatrix.{KeyMatrix}
use Rattle.mcs_model.specs.declared.board.Line.TheVariants.{Rom}
use Rattle.mcs_model.specs.Boards.{key_count, rom_masks}
use Rattle.mcs_model.specs.Bus.{BusState}
use Rattle.mcs_model.specs.Validity.{AreBelow}
use Rattle.mcs_model.specs.Levels.{bit_when, row_drives_column, is_pulled, is_rom_line, port_at, port_of}
use Rattle.mcs_drive.specs.DrivenRuns.{AreAllowed, InputLimits, Levels}
use Rattle.mcs_drive.proofs.LevelLemmas.{at_levels}
use Rattle.mcs_drive.proofs.ShownMarkLemmas.{key-level-below-two}
use Rattle.mcs_check.specs.ReadPoints.{is_bit_subset, unpressed_port_value}

or-monotone : (a b x y : Bool) → (a ≡ true → x ≡ true) → (b ≡ true → y ≡ true) → (a || b) ≡ true → (x || y) ≡ true
or-monotone true b x y h k e = ap (λ z. z || y) (h refl)
or-monotone false true true y h k e = refl
or-monotone false true false y h k e = k refl
or-monotone false false x y h k e = absurd (cc)

and-monotone : (a b x y : Bool) → (a ≡ true → x ≡ true) → (b ≡ true → y ≡ true) → (a && b) ≡ true → (x && y) ≡ true
and-monotone true true x y h k e = ap (λ z. z && y) (h refl) ∙ k refl
and-monotone true false x y h k e = absurd (cc)
and-monotone false b x y h k e = absurd (cc)

list_any-monotone : {X : Type 0} (p q : X → Bool) → ((x : X) → p x ≡ true → q x ≡ true) → (xs : List X) → list_any p xs ≡ true → list_any q xs ≡ true
list_any-monotone p q h [] e = e
list_any-monotone p q h (x ∷ xs) e = or-monotone (p x) (list_any p xs) (q x) (list_any q xs) (h x) (list_any-monotone p q h xs) e

-- a key that is at 1 is also at 1 at its highest level
key_level_1-at_highest_level : (keys highest : List ℕ) (n i : ℕ) → AreBelow n 2 highest → slice_index keys i ≤ slice_index highest i → eqb (slice_index keys i) 1 ≡ true → eqb (slice_index highest i) 1 ≡ true
key_level_1-at_highest_level keys highest n i fit most e =
    let one : slice_index keys i ≡ 1 = eqb-true _ _ e in
    let low = key-level-below-two n i highest fit in
    eq-eqb _ _ (omega arith)

pulled-at_highest_levels_by_cases : (l : Levels) (s : BusState) (o : Option KeyMatrix) (n chip k : ℕ) → AreBelow n 2 s.keys → ((i : ℕ) → slice_index l.keys i ≤ slice_index s.keys i) →
    elim o as (λ _. Bool) [ None ↦ false | Some m ↦ list_any (λ j. is_rom_line chip k (slice_index_or m.columns.items j (Rom 0 0)) && list_any (row_drives_column (slice_index_or s.chains m.chain []) l.keys m j) (range_with_len 0 m.rows)) (range_with_len 0 (length m.columns.items)) ] ≡ true →
    elim o as (λ _. Bool) [ None ↦ false | Some m ↦ list_any (λ j. is_rom_line chip k (slice_index_or m.columns.items j (Rom 0 0)) && list_any (row_drives_column (slice_index_or s.chains m.chain []) s.keys m j) (range_with_len 0 m.rows)) (range_with_len 0 (length m.columns.items)) ] ≡ true
pulled-at_highest_levels_by_cases l s None n chip k fit most e = e
pulled-at_highest_levels_by_cases l s (Some m) n chip k fit most e =
    list_any-monotone _ _
    (λ j h. and-monotone (is_rom_line chip k (slice_index_or m.columns.items j (Rom 0 0))) _ _ _ (λ a. a)
    (list_any-monotone (row_drives_column (slice_index_or s.chains m.chain []) l.keys m j) (row_drives_column (slice_index_or s.chains m.chain []) s.keys m j)
    (λ r g. and-monotone (eqb (slice_index (slice_index_or s.chains m.chain []) (m.first + r)) 1) _ _ _ (λ a. a) (key_level_1-at_highest_level l.keys s.keys n (r * length m.columns.items + j) fit (most (r * length m.columns.items + j))) g)
    (range_with_len 0 m.rows))
    h)
    (range_with_len 0 (length m.columns.items)) e

pulled-at_highest_levels : (l : Levels) (s : BusState) (chip k : ℕ) → AreBelow (key_count s.board) 2 s.keys → ((i : ℕ) → slice_index l.keys i ≤ slice_index s.keys i) → is_pulled (at_levels l s) chip k ≡ true → is_pulled s chip k ≡ true
unfolding is_pulled
pulled-at_highest_levels l s chip k fit most e = pulled-at_highest_levels_by_cases l s s.board.keys (key_count s.board) chip k fit most e

-- ---- lines of a port

pub bit_when-lt : (b : Bool) → bit_when b < 2
bit_when-lt true = omega arith
bit_when-lt false = omega arith

pub bit_when-monotone : (a b : Bool) → (a ≡ true → b ≡ true) → bit_when a ≤ bit_when b
bit_when-monotone true b h = rw (h refl) (omega arith)
bit_when-monotone false b h = omega arith

read_bit-monotone : (f g : ℕ → ℕ) (mask : List LineMask) (k : ℕ) → f k ≤ g k → read_bit f mask k ≤ read_bit g mask k
read_bit-monotone f g mask k e =
    elim (mask_at mask k) as (λ m. elim m as (λ _. ℕ) [ Input ↦ f k | Zero ↦ 0 | One ↦ 1 ] ≤ elim m as (λ _. ℕ) [ Input ↦ g k | Zero ↦ 0 | One ↦ 1 ]) [ Input ↦ e | Zero ↦ omega arith | One ↦ omega arith ]

pub read_bit-lt : (f : ℕ → ℕ) (mask : List LineMask) (k : ℕ) → f k < 2 → read_bit f mask k < 2
read_bit-lt f mask k e =
    elim (mask_at mask k) as (λ m. elim m as (λ _. ℕ) [ Input ↦ f k | Zero ↦ 0 | One ↦ 1 ] < 2) [ Input ↦ e | Zero ↦ omega arith | One ↦ omega arith ]

pub record Bits (n a b c d : ℕ) : Type 0 where
  pub at_0 : bit_of n 0 ≡ a
  pub at_1 : bit_of n 1 ≡ b
  pub at_2 : bit_of n 2 ≡ c
  pub at_3 : bit_of n 3 ≡ d

pub bits : (a b c d : ℕ) → a < 2 → b < 2 → c < 2 → d < 2 → Bits (a + 2 * b + 4 * c + 8 * d) a b c d
bits a b c d ha hb hc hd = record { at_0 = omega arith; at_1 = omega arith; at_2 = omega arith; at_3 = omega arith }

bit_subset-if_bits_not_greater : (n m a b c d x y z w : ℕ) → Bits n a b c d → Bits m x y z w → a ≤ x → b ≤ y → c ≤ z → d ≤ w → is_bit_subset n m ≡ true
bit_subset-if_bits_not_greater n m a b c d x y z w p q ha hb hc hd =
    rw (p.at_0, p.at_1, p.at_2, p.at_3, q.at_0, q.at_1, q.at_2, q.at_3, le-leb a x ha, le-leb b y hb, le-leb c z hc, le-leb d w hd) refl

read_lines-monotone : (f g : ℕ → Bool) (mask : List LineMask) → ((k : ℕ) → f k ≡ true → g k ≡ true) → is_bit_subset (read_lines (λ k. bit_when (f k)) mask) (read_lines (λ k. bit_when (g k)) mask) ≡ true
unfolding read_lines
read_lines-monotone f g mask h =
    let a : ℕ → ℕ = λ k. bit_when (f k) in
    let b : ℕ → ℕ = λ k. bit_when (g k) in
    let la : (k : ℕ) → read_bit a mask k < 2 = λ k. read_bit-lt a mask k (bit_when-lt (f k)) in
    let lb : (k : ℕ) → read_bit b mask k < 2 = λ k. read_bit-lt b mask k (bit_when-lt (g k)) in
    let more : (k : ℕ) → read_bit a mask k ≤ read_bit b mask k = λ k. read_bit-monotone a b mask k (bit_when-monotone (f k) (g k) (h k)) in
    bit_subset-if_bits_not_greater _ _ _ _ _ _ _ _ _ _
    (bits (read_bit a mask 0) (read_bit a mask 1) (read_bit a mask 2) (read_bit a mask 3) (la 0) (la 1) (la 2) (la 3))
    (bits (read_bit b mask 0) (read_bit b mask 1) (read_bit b mask 2) (read_bit b mask 3) (lb 0) (lb 1) (lb 2) (lb 3))
    (more 0) (more 1) (more 2) (more 3)

port_bit_subset-by_cases : (f g : ℕ → Bool) (o : Option (List LineMask)) → ((k : ℕ) → f k ≡ true → g k ≡ true) →
    is_bit_subset (elim o as (λ _. ℕ) [ Some mask ↦ read_lines (λ k. bit_when (f k)) mask | None ↦ 0 ]) (elim o as (λ _. ℕ) [ Some mask ↦ read_lines (λ k. bit_when (g k)) mask | None ↦ 0 ]) ≡ true
port_bit_subset-by_cases f g (Some mask) h = read_lines-monotone f g mask h
port_bit_subset-by_cases f g None h = refl

-- at any input levels within the limits, the selected ROM's port reads 1 only on lines that read 1
-- with each key at its highest level
pub port_bits-subset_at_highest_levels : (limits : InputLimits) (l : Levels) (s : BusState) → AreAllowed limits s.board l → AreBelow (key_count s.board) 2 s.keys → s.keys ≡ limits.keys → is_bit_subset (port_of (at_levels l s)) (port_of s) ≡ true
unfolding port_at
port_bits-subset_at_highest_levels limits l s allowed fit highest =
    let chip = s.rom_src / 16 in
    let most : (i : ℕ) → slice_index l.keys i ≤ slice_index s.keys i = subst (λ (xs : List ℕ). (i : ℕ) → slice_index l.keys i ≤ slice_index xs i) (sym highest) allowed.keys in
    port_bit_subset-by_cases (λ k. is_pulled (at_levels l s) chip k) (λ k. is_pulled s chip k) (rom_masks s.board chip) (λ k h. pulled-at_highest_levels l s chip k fit most h)

-- at any input levels, the selected ROM's port reads 1 on every line that reads 1 with no key
-- pressed
pub port_bits-superset_of_unpressed : (l : Levels) (s : BusState) → is_bit_subset (unpressed_port_value s) (port_of (at_levels l s)) ≡ true
unfolding port_at
port_bits-superset_of_unpressed l s =
    let chip = s.rom_src / 16 in
    port_bit_subset-by_cases (λ k. false) (λ k. is_pulled (at_levels l s) chip k) (rom_masks s.board chip) (λ k e. absurd (cc))

-- the bits of 0, read through a mask, give the same value as level 0 on every line
pub read_lines-of_unpressed_is_bits_of_0 : (mask : List LineMask) → read_lines (bit_of 0) mask ≡ read_lines (λ k. 0) mask
unfolding read_lines
read_lines-of_unpressed_is_bits_of_0 mask = refl

read_lines-lt : (f : ℕ → Bool) (mask : List LineMask) → read_lines (λ k. bit_when (f k)) mask < 16
unfolding read_lines
read_lines-lt f mask =
    let a : ℕ → ℕ = λ k. bit_when (f k) in
    let b0 = read_bit-lt a mask 0 (bit_when-lt (f 0)) in
    let b1 = read_bit-lt a mask 1 (bit_when-lt (f 1)) in
    let b2 = read_bit-lt a mask 2 (bit_when-lt (f 2)) in
    let b3 = read_bit-lt a mask 3 (bit_when-lt (f 3)) in
    omega arith

port-lt_by_cases : (f : ℕ → Bool) (o : Option (List LineMask)) → elim o as (λ _. ℕ) [ Some mask ↦ read_lines (λ k. bit_when (f k)) mask | None ↦ 0 ] < 16
port-lt_by_cases f (Some mask) = read_lines-lt f mask
port-lt_by_cases f None = omega arith

pub port-lt : (s : BusState) → port_of s < 16
unfolding port_at
port-lt s = port-lt_by_cases (λ k. is_pulled s (s.rom_src / 16) k) (rom_masks s.board (s.rom_src / 16))
