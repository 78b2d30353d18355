-- The valid boards of version 1 are the small valid boards of version 2.
use Rattle.std.proofs.Common.{◌≡◌, ℕ, ◌*◌, ◌+◌, ◌<◌, ◌≤◌, Bool, true, false, not, ◌&&◌, ◌||◌, List, [], ◌∷◌, length, Option, Some, None, refl, ap, arith, nat_lt, nat_le, inl, inr}
use Rattle.std.specs.List.{list_any}
use Rattle.std.proofs.lemmas.Bool.{ltb-true, lt-ltb, leb-true, le-leb, cases_lt, or_parts, or_from, and_parts, not-false, not-true}
use Rattle.std.proofs.lemmas.Bool.Decides.{nat_tests}
use Rattle.std.proofs.lemmas.List.{get_or_past}
use Rattle.mcs_model.specs.declared.board.BoardParts.{BoardParts}
use Rattle.mcs_model.specs.declared.board.ChainPart.{ChainPart}
use Rattle.mcs_model.specs.declared.board.KeyMatrix.{KeyMatrix}
use Rattle.mcs_model.specs.declared.board.Line.{Line}
use Rattle.mcs_model.specs.declared.board.Line.TheVariants.{Rom, Ram, Chain}
use Rattle.mcs_model.specs.declared.limits.TheConstants.{BANK_CHIPS, CHAINS, CHAIN_CHIPS, CHAIN_BITS, KEY_ROWS}
use Rattle.mcs_model.specs.Boards.{any_line, any_chain_line, any_column, any_lamp, lacks_line, is_on_board, chain_bits, chain_part, chain_count, no_chain, has_bad_value, has_wrong_direction, in_range, is_chain_size, is_matrix_size}
use Rattle.mcs_model.specs.Validity.{IsValidBoard}
use Rattle.mcs_version1.specs.Boards.{in_range_1, is_chain_size_1, is_matrix_size_1, has_bad_matrix_1, has_bad_value_1, fits_version_1, IsValidBoard1}
use Rattle.mcs_model.proofs.ListLemmas.{test_false-if_list_any_false}
use Rattle.mcs_model.proofs.ValidBoardLemmas.{no_fault, sound}

-- ---- tests of all elements of a list

-- if `r` is false wherever `p` and `q` are both false, and no element satisfies `p` or `q`, then no
-- element satisfies `r`
list_any-false-if-others-false : {A : Type 0} (p q r : A → Bool) → ((x : A) → p x ≡ false → q x ≡ false → r x ≡ false) → (xs : List A) → list_any p xs ≡ false → list_any q xs ≡ false → list_any r xs ≡ false
list_any-false-if-others-false p q r f [] e g = refl
list_any-false-if-others-false p q r f (x ∷ xs) e g =
    let a = or_parts (p x) (list_any p xs) e in
    let b = or_parts (q x) (list_any q xs) g in
    or_from (r x) (list_any r xs) (f x a.0 b.0) (list_any-false-if-others-false p q r f xs a.1 b.1)

-- ---- small boards

pub record IsSmall (b : BoardParts) : Type 0 where
  pub few : length b.chains.items ≤ 2
  pub no_long_chain : list_any (λ (c : ChainPart). nat_lt 4 c.chips) b.chains.items ≡ false

board-is-small : (b : BoardParts) → fits_version_1 b ≡ true → IsSmall b
board-is-small b h =
    let w = and_parts (nat_le (length b.chains.items) 2) (not (list_any (λ (c : ChainPart). nat_lt 4 c.chips) b.chains.items)) h in
    record { few = leb-true _ _ w.0; no_long_chain = not-true _ w.1 }

-- a chain of a small board has at most 4 chips
chain-of-small-board-is-short : (b : BoardParts) (n : ℕ) → IsSmall b → (chain_part b n).chips ≤ 4
chain-of-small-board-is-short b n s =
    elim (cases_lt n (length b.chains.items)) [
      | inl lt ↦ (let size : nat_lt 4 (chain_part b n).chips ≡ false = test_false-if_list_any_false (λ (c : ChainPart). nat_lt 4 c.chips) b.chains.items n no_chain s.no_long_chain lt in grind (arith, nat_tests))
      | inr ge ↦ (let no_chips : (chain_part b n).chips ≡ 0 = ap (λ (c : ChainPart). c.chips) (get_or_past b.chains.items n no_chain ge) in omega arith)
    ]

-- ---- lines

line-in-range-1-on-small-board : (b : BoardParts) → IsSmall b → (line : Line) → not (is_on_board b line) ≡ false → not (in_range line) ≡ false → not (in_range_1 line) ≡ false
line-in-range-1-on-small-board b s (Rom chip j) on_board fits = fits
line-in-range-1-on-small-board b s (Ram bank chip j) on_board fits = fits
line-in-range-1-on-small-board b s (Chain n i) on_board fits =
    let few_chains = s.few in
    let bit_in_chain : i < 10 * (chain_part b n).chips = ltb-true _ _ (not-false _ on_board) in
    let short_chain = chain-of-small-board-is-short b n s in
    let inside : n < 2 =
    elim (cases_lt n (length b.chains.items)) [
      | inl lt ↦ omega arith
      | inr ge ↦ absurd (let no_chips : (chain_part b n).chips ≡ 0 = ap (λ (c : ChainPart). c.chips) (get_or_past b.chains.items n no_chain ge) in omega arith)
    ] in
    let a : nat_lt n 2 ≡ true = lt-ltb _ _ inside in
    let c : nat_lt i 40 ≡ true = lt-ltb _ _ (omega arith) in
    rw (a, c) refl

line-in-range-if-in-range-1 : (line : Line) → not (in_range_1 line) ≡ false → not (in_range line) ≡ false
line-in-range-if-in-range-1 (Rom chip j) fits = fits
line-in-range-if-in-range-1 (Ram bank chip j) fits = fits
line-in-range-if-in-range-1 (Chain n i) fits =
    let w = and_parts (nat_lt n 2) (nat_lt i 40) (not-false _ fits) in
    let x : n < 2 = ltb-true _ _ w.0 in
    let y : i < 40 = ltb-true _ _ w.1 in
    let a : nat_lt n CHAINS ≡ true = lt-ltb _ _ (omega arith) in
    let e : nat_lt i CHAIN_BITS ≡ true = lt-ltb _ _ (omega arith) in
    rw (a, e) refl

columns-false-if-others-false : (p q r : Line → Bool) → ((x : Line) → p x ≡ false → q x ≡ false → r x ≡ false) → (keys : Option KeyMatrix)
    → (elim keys [ Some m ↦ list_any p m.columns.items | None ↦ false ]) ≡ false → (elim keys [ Some m ↦ list_any q m.columns.items | None ↦ false ]) ≡ false → (elim keys [ Some m ↦ list_any r m.columns.items | None ↦ false ]) ≡ false
columns-false-if-others-false p q r f None e g = refl
columns-false-if-others-false p q r f (Some m) e g = list_any-false-if-others-false p q r f m.columns.items e g

any_line-false-if-others-false : (p q r : Line → Bool) → ((x : Line) → p x ≡ false → q x ≡ false → r x ≡ false) → (b : BoardParts) → any_line p b ≡ false → any_line q b ≡ false → any_line r b ≡ false
any_line-false-if-others-false p q r f b p_false q_false =
    let t1 = or_parts (any_chain_line p b || any_column p b) (any_lamp p b) p_false in let t2 = or_parts (any_chain_line p b) (any_column p b) t1.0 in
    let f1 = or_parts (any_chain_line q b || any_column q b) (any_lamp q b) q_false in let f2 = or_parts (any_chain_line q b) (any_column q b) f1.0 in
    or_from (any_chain_line r b || any_column r b) (any_lamp r b)
    (or_from (any_chain_line r b) (any_column r b)
    (list_any-false-if-others-false (λ (c : ChainPart). p c.clock || p c.data_in) (λ (c : ChainPart). q c.clock || q c.data_in) (λ (c : ChainPart). r c.clock || r c.data_in)
    (λ c x y. let a = or_parts (p c.clock) (p c.data_in) x in let d = or_parts (q c.clock) (q c.data_in) y in or_from (r c.clock) (r c.data_in) (f c.clock a.0 d.0) (f c.data_in a.1 d.1)) b.chains.items t2.0 f2.0)
    (columns-false-if-others-false p q r f b.keys t2.1 f2.1))
    (list_any-false-if-others-false p q r f b.lamps.items t1.1 f1.1)

-- ---- sizes of chains

chain-size-if-chain-size-1 : (c : ChainPart) → not (is_chain_size_1 c) ≡ false → not (is_chain_size c) ≡ false
chain-size-if-chain-size-1 c x =
    let w = and_parts (nat_lt 0 c.chips) (nat_le c.chips 4) (not-false _ x) in
    let most : c.chips ≤ 4 = leb-true _ _ w.1 in
    let has_chips : nat_lt 0 c.chips ≡ true = w.0 in
    let chips_within_limit : nat_le c.chips CHAIN_CHIPS ≡ true = le-leb _ _ (omega arith) in
    rw (has_chips, chips_within_limit) refl

chain-size-1-if-short : (c : ChainPart) → not (is_chain_size c) ≡ false → nat_lt 4 c.chips ≡ false → not (is_chain_size_1 c) ≡ false
chain-size-1-if-short c x y =
    let w = and_parts (nat_lt 0 c.chips) (nat_le c.chips CHAIN_CHIPS) (not-false _ x) in
    let short_chain : c.chips ≤ 4 = grind (arith, nat_tests) in
    let has_chips : nat_lt 0 c.chips ≡ true = w.0 in
    let chips_within_limit : nat_le c.chips 4 ≡ true = le-leb _ _ short_chain in
    rw (has_chips, chips_within_limit) refl

chain-is-short-if-chain-size-1 : (c : ChainPart) → not (is_chain_size_1 c) ≡ false → nat_lt 4 c.chips ≡ false
chain-is-short-if-chain-size-1 c x =
    let w = and_parts (nat_lt 0 c.chips) (nat_le c.chips 4) (not-false _ x) in
    let most : c.chips ≤ 4 = leb-true _ _ w.1 in
    grind (arith, nat_tests)

-- ---- the key matrix

record HasSizes (chains bits : ℕ) (m : KeyMatrix) : Type 0 where
  chain : nat_lt m.chain chains ≡ true
  first : nat_lt m.first bits ≡ true
  some : nat_lt 0 m.rows ≡ true
  rows : nat_le m.rows KEY_ROWS ≡ true
  columns : nat_lt 0 (length m.columns.items) ≡ true

matrix-has-sizes : (chains bits : ℕ) (m : KeyMatrix) → (nat_lt m.chain chains && nat_lt m.first bits && nat_lt 0 m.rows && nat_le m.rows KEY_ROWS && nat_lt 0 (length m.columns.items)) ≡ true → HasSizes chains bits m
matrix-has-sizes chains bits m h =
    let a = nat_lt m.chain chains in let f = nat_lt m.first bits in let s = nat_lt 0 m.rows in let r = nat_le m.rows KEY_ROWS in let k = nat_lt 0 (length m.columns.items) in
    let w1 = and_parts (a && f && s && r) k h in
    let w2 = and_parts (a && f && s) r w1.0 in
    let w3 = and_parts (a && f) s w2.0 in
    let w4 = and_parts a f w3.0 in
    record { chain = w4.0; first = w4.1; some = w3.1; rows = w2.1; columns = w1.1 }

matrix-size-if-matrix-size-1 : (keys : Option KeyMatrix) → elim keys [ Some m ↦ not (is_matrix_size_1 m) | None ↦ false ] ≡ false → elim keys [ Some m ↦ not (is_matrix_size m) | None ↦ false ] ≡ false
matrix-size-if-matrix-size-1 None h = refl
matrix-size-if-matrix-size-1 (Some m) h =
    let w = matrix-has-sizes 2 40 m (not-false _ h) in
    let x : m.chain < 2 = ltb-true _ _ w.chain in
    let y : m.first < 40 = ltb-true _ _ w.first in
    let a : nat_lt m.chain CHAINS ≡ true = lt-ltb _ _ (omega arith) in
    let f : nat_lt m.first CHAIN_BITS ≡ true = lt-ltb _ _ (omega arith) in
    rw (a, f, w.some, w.rows, w.columns) refl

matrix-size-1-on-small-board : (b : BoardParts) → IsSmall b → (keys : Option KeyMatrix) → elim keys [ Some m ↦ nat_le (chain_count b) m.chain || nat_lt (chain_bits b m.chain) (m.first + m.rows) | None ↦ false ] ≡ false
    → elim keys [ Some m ↦ not (is_matrix_size m) | None ↦ false ] ≡ false → elim keys [ Some m ↦ not (is_matrix_size_1 m) | None ↦ false ] ≡ false
matrix-size-1-on-small-board b s None rows_exist h = refl
matrix-size-1-on-small-board b s (Some m) rows_exist h =
    let w = matrix-has-sizes CHAINS CHAIN_BITS m (not-false _ h) in
    let t = or_parts (nat_le (chain_count b) m.chain) (nat_lt (chain_bits b m.chain) (m.first + m.rows)) rows_exist in
    let few_chains = s.few in
    let short_chain = chain-of-small-board-is-short b m.chain s in
    let rows : 0 < m.rows = ltb-true _ _ w.some in
    let x : m.chain < chain_count b = (let none = t.0 in grind (arith, nat_tests)) in
    let y : m.first + m.rows ≤ chain_bits b m.chain = (let none = t.1 in grind (arith, nat_tests)) in
    let a : nat_lt m.chain 2 ≡ true = lt-ltb _ _ (omega arith) in
    let f : nat_lt m.first 40 ≡ true = lt-ltb _ _ (omega arith) in
    rw (a, f, w.some, w.rows, w.columns) refl

-- ---- the complete boards

pub valid-board-if-valid-in-version-1 : (b : BoardParts) → IsValidBoard1 b → IsValidBoard b
valid-board-if-valid-in-version-1 b h =
    let w = no_fault (has_bad_value_1 b) (lacks_line b) (has_wrong_direction b) h.valid in
    let large = list_any (λ n. nat_lt BANK_CHIPS n) b.banks in
    let chains = list_any (λ (c : ChainPart). not (is_chain_size_1 c)) b.chains.items in
    let lines = any_line (λ line. not (in_range_1 line)) b in
    let v1 = or_parts (large || chains || has_bad_matrix_1 b) lines w.0 in
    let v2 = or_parts (large || chains) (has_bad_matrix_1 b) v1.0 in
    let v3 = or_parts large chains v2.0 in
    let valid_sizes = list_any-false-if-others-false (λ (c : ChainPart). not (is_chain_size_1 c)) (λ (c : ChainPart). not (is_chain_size_1 c)) (λ (c : ChainPart). not (is_chain_size c)) (λ c x y. chain-size-if-chain-size-1 c x) b.chains.items v3.1 v3.1 in
    let matrix = matrix-size-if-matrix-size-1 b.keys v2.1 in
    let in_ranges = any_line-false-if-others-false (λ line. not (in_range_1 line)) (λ line. not (in_range_1 line)) (λ line. not (in_range line)) (λ line x y. line-in-range-if-in-range-1 line x) b v1.1 v1.1 in
    let no_bad_value : has_bad_value b ≡ false = or_from _ _ (or_from _ _ (or_from _ _ v3.0 valid_sizes) matrix) in_ranges in
    record { sized = h.sized; valid = rw (no_bad_value, w.1, w.2) refl }

pub small-board-if-valid-in-version-1 : (b : BoardParts) → IsValidBoard1 b → fits_version_1 b ≡ true
small-board-if-valid-in-version-1 b h =
    let w = no_fault (has_bad_value_1 b) (lacks_line b) (has_wrong_direction b) h.valid in
    let large = list_any (λ n. nat_lt BANK_CHIPS n) b.banks in
    let chains = list_any (λ (c : ChainPart). not (is_chain_size_1 c)) b.chains.items in
    let v1 = or_parts (large || chains || has_bad_matrix_1 b) (any_line (λ line. not (in_range_1 line)) b) w.0 in
    let v2 = or_parts (large || chains) (has_bad_matrix_1 b) v1.0 in
    let v3 = or_parts large chains v2.0 in
    let few_chains : nat_le (length b.chains.items) 2 ≡ true = le-leb _ _ h.few in
    let no_long_chain : list_any (λ (c : ChainPart). nat_lt 4 c.chips) b.chains.items ≡ false = list_any-false-if-others-false (λ (c : ChainPart). not (is_chain_size_1 c)) (λ (c : ChainPart). not (is_chain_size_1 c)) (λ (c : ChainPart). nat_lt 4 c.chips) (λ c x y. chain-is-short-if-chain-size-1 c x) b.chains.items v3.1 v3.1 in
    rw (few_chains, no_long_chain) refl

pub valid-in-version-1-if-small : (b : BoardParts) → IsValidBoard b → fits_version_1 b ≡ true → IsValidBoard1 b
valid-in-version-1-if-small b h e =
    let s = board-is-small b e in
    let sound_parts = sound b h.valid in
    let valid_sizes = list_any-false-if-others-false (λ (c : ChainPart). not (is_chain_size c)) (λ (c : ChainPart). nat_lt 4 c.chips) (λ (c : ChainPart). not (is_chain_size_1 c)) (λ c x y. chain-size-1-if-short c x y) b.chains.items sound_parts.values.chains s.no_long_chain in
    let matrix = matrix-size-1-on-small-board b s b.keys sound_parts.rows sound_parts.values.matrix in
    let in_ranges = any_line-false-if-others-false (λ line. not (is_on_board b line)) (λ line. not (in_range line)) (λ line. not (in_range_1 line)) (λ line x y. line-in-range-1-on-small-board b s line x y) b sound_parts.lines sound_parts.values.lines in
    let no_bad_value : has_bad_value_1 b ≡ false = or_from _ _ (or_from _ _ (or_from _ _ sound_parts.values.banks valid_sizes) matrix) in_ranges in
    let no_missing_line : lacks_line b ≡ false = or_from _ _ sound_parts.lines sound_parts.rows in
    record { sized = h.sized; few = s.few; valid = rw (no_bad_value, no_missing_line, sound_parts.directions) refl }
