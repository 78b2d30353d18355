-- A read shows a mark only if the key of the mark is at the mark's level.
use Rattle.std.proofs.Common.{◌≡◌, ℕ, zero, suc, ◌+◌, ◌*◌, ◌/◌, ◌<◌, Bool, true, false, not, cond, ◌&&◌, ◌||◌, List, [], ◌∷◌, Option, Some, None, is_some, inl, inr, length, get_or, nat_lt, slice_index, slice_index_or, refl, sym, ap, ◌∙◌, subst, arith, eqb}
use Rattle.std.specs.List.{list_any, range_with_len}
use Rattle.std.proofs.lemmas.Bool.{and_from, and_parts, cases_Bool, cases_lt, eq-eqb, eqb-false, eqb-true, ltb-true, not-false, not-true, or_parts}
use Rattle.std.proofs.lemmas.List.{get_or_past}
use Rattle.std.proofs.lemmas.List.Elements.{All-get_or}
use Rattle.std.proofs.lemmas.List.FromFn.{get_or-range_with_len, length-range_with_len}
use Rattle.mcs_nibble.specs.declared.lines.LineMask.{LineMask}
use Rattle.mcs_nibble.specs.declared.lines.LineMask.TheVariants.{Input, Zero, One}
use Rattle.mcs_nibble.specs.Bits.{bit_of, nibble_of}
use Rattle.mcs_nibble.specs.Ports.{is_input, mask_at, read_bit, read_lines}
use Rattle.mcs_model.specs.declared.board.BoardParts.{BoardParts}
use Rattle.mcs_model.specs.declared.board.KeyMatrix.{KeyMatrix}
use Rattle.mcs_model.specs.declared.board.Line.{Line}
use Rattle.mcs_model.specs.declared.board.Line.TheVariants.{Rom, Ram, Chain}
use Rattle.mcs_model.specs.declared.op.Op.{Op}
use Rattle.mcs_model.specs.declared.op.Op.TheVariants.{Rdr}
use Rattle.mcs_model.specs.Boards.{any_chain_line, any_column, any_lamp, board_fault_of, has_key, is_input_line, is_output_line, key_count, rom_masks}
use Rattle.mcs_model.specs.Bus.{BusState}
use Rattle.mcs_model.specs.Levels.{bit_when, row_drives_column, is_pulled, is_pulled_by, is_rom_line, port_at, port_of}
use Rattle.mcs_model.specs.Validity.{AreBelow}
use Rattle.mcs_model.proofs.ListLemmas.{test_false-if_list_any_false}
use Rattle.mcs_model.proofs.ValidBoardLemmas.{sound}
use Rattle.mcs_drive.specs.declared.marks.Mark.{Mark}
use Rattle.mcs_drive.specs.DrivenRuns.{Levels, FitsBoard}
use Rattle.mcs_drive.specs.Marks.{IsAtMark, can_other_key_pull, column_line, is_row_driven, line_shows, port_shows, shows}
use Rattle.mcs_drive.proofs.PortChoiceLemmas.{bit-lt, bits}
use Rattle.mcs_drive.proofs.LevelLemmas.{at_levels}

-- ---- a bit read at an input line is the level of the line

bit_of-nibble_of : (f : ℕ → ℕ) → ((j : ℕ) → f j < 2) → (k : ℕ) → k < 4 → bit_of (nibble_of f) k ≡ f k
bit_of-nibble_of f lt zero h = (bits (f 0) (f 1) (f 2) (f 3) (lt 0) (lt 1) (lt 2) (lt 3)).at_0
bit_of-nibble_of f lt (suc zero) h = (bits (f 0) (f 1) (f 2) (f 3) (lt 0) (lt 1) (lt 2) (lt 3)).at_1
bit_of-nibble_of f lt (suc (suc zero)) h = (bits (f 0) (f 1) (f 2) (f 3) (lt 0) (lt 1) (lt 2) (lt 3)).at_2
bit_of-nibble_of f lt (suc (suc (suc zero))) h = (bits (f 0) (f 1) (f 2) (f 3) (lt 0) (lt 1) (lt 2) (lt 3)).at_3
bit_of-nibble_of f lt (suc (suc (suc (suc k)))) h = absurd (omega arith)

masked-level-below-two : (f : ℕ → ℕ) (k : ℕ) (m : LineMask) → f k < 2 → elim m as (λ _. ℕ) [ Input ↦ f k | Zero ↦ 0 | One ↦ 1 ] < 2
masked-level-below-two f k Input h = h
masked-level-below-two f k Zero h = omega arith
masked-level-below-two f k One h = omega arith

masked-level-at-input-line : (f : ℕ → ℕ) (k : ℕ) (m : LineMask) → is_input m ≡ true → elim m as (λ _. ℕ) [ Input ↦ f k | Zero ↦ 0 | One ↦ 1 ] ≡ f k
masked-level-at-input-line f k Input h = refl
masked-level-at-input-line f k Zero h = absurd (cc)
masked-level-at-input-line f k One h = absurd (cc)

masked-port-bit-at-input-line : (f : ℕ → Bool) (k : ℕ) (o : Option (List LineMask)) → k < 4 → elim o as (λ _. Bool) [ Some mask ↦ is_input (mask_at mask k) | None ↦ false ] ≡ true →
    bit_of (elim o as (λ _. ℕ) [ Some mask ↦ read_lines (λ j. bit_when (f j)) mask | None ↦ 0 ]) k ≡ bit_when (f k)
unfolding read_lines
masked-port-bit-at-input-line f k None few is = absurd (cc)
masked-port-bit-at-input-line f k (Some mask) few is =
    let inputs : ℕ → ℕ = λ j. bit_when (f j) in
    bit_of-nibble_of (read_bit inputs mask) (λ j. masked-level-below-two inputs j (mask_at mask j) (bit-lt (f j))) k few ∙ masked-level-at-input-line inputs k (mask_at mask k) is

port-bit-at-input-line : (s : BusState) (chip k : ℕ) → is_input_line s.board (Rom chip k) ≡ true → bit_of (port_at s chip) k ≡ bit_when (is_pulled s chip k)
unfolding port_at
port-bit-at-input-line s chip k is =
    let parts = and_parts (is_some (rom_masks s.board chip) && nat_lt k 4) _ is in
    let few = ltb-true k 4 (and_parts (is_some (rom_masks s.board chip)) (nat_lt k 4) parts.0).1 in
    masked-port-bit-at-input-line (is_pulled s chip) k (rom_masks s.board chip) few parts.1

-- ---- the line of a column is an input line

column_line-is-input-line : (b : BoardParts) (m : KeyMatrix) (j : ℕ) → board_fault_of b ≡ None → b.keys ≡ Some m → j < length m.columns.items → is_input_line b (column_line m j) ≡ true
column_line-is-input-line b m j v e within =
    let p = λ (x : Line). not (is_output_line b x) in
    let q = λ (x : Line). not (is_input_line b x) in
    let first = or_parts (any_chain_line p b || any_column q b) (any_lamp (is_input_line b) b) (sound b v).directions in
    let columns = (or_parts (any_chain_line p b) (any_column q b) first.0).1 in
    let none : list_any q m.columns.items ≡ false =
    subst (λ (o : Option KeyMatrix). elim o as (λ _. Bool) [ Some m ↦ list_any q m.columns.items | None ↦ false ] ≡ false) e columns in
    not-false (is_input_line b (column_line m j)) (test_false-if_list_any_false q m.columns.items j (Rom 0 0) none within)

-- ---- a line that reads 1 or 0 shows the level of a key

false-in-range-if-no-match : (p : ℕ → Bool) (n j : ℕ) → list_any p (range_with_len 0 n) ≡ false → j < n → p j ≡ false
false-in-range-if-no-match p n j none h =
    let at : get_or (range_with_len 0 n) j 0 ≡ j = get_or-range_with_len 0 n j 0 h ∙ (let e : 0 + j ≡ j = omega arith in e) in
    ap p (sym at) ∙ test_false-if_list_any_false p (range_with_len 0 n) j 0 none (let len = length-range_with_len 0 n in omega arith)

-- `F` holds if some element satisfies `p`, none satisfies `q`, and `F` follows from each element
-- that satisfies `p` but not `q`
by-element-matching-p-not-q : {X : Type 0} (p q : X → Bool) (F : Type 0) → ((x : X) → p x ≡ true → q x ≡ false → F) → (xs : List X) → list_any p xs ≡ true → list_any q xs ≡ false → F
by-element-matching-p-not-q p q F h [] some none = absurd (cc)
by-element-matching-p-not-q p q F h (x ∷ xs) some none =
    let parts = or_parts (q x) (list_any q xs) none in
    elim (cases_Bool (p x)) [
      | inl here ↦ h x here parts.0
      | inr later ↦ by-element-matching-p-not-q p q F h xs (sym (ap (λ b. b || list_any p xs) later) ∙ some) parts.1
    ]

right-false-if-and-false : (a b : Bool) → a ≡ true → (a && b) ≡ false → b ≡ false
right-false-if-and-false a b is e = sym (ap (λ c. c && b) is) ∙ e

is_pulled-with-key-matrix : (s : BusState) (m : KeyMatrix) (chip k : ℕ) → s.board.keys ≡ Some m → is_pulled s chip k ≡ is_pulled_by (slice_index_or s.chains m.chain []) s.keys m chip k
unfolding is_pulled
is_pulled-with-key-matrix s m chip k e =
    ap (λ (o : Option KeyMatrix). elim o as (λ _. Bool) [ None ↦ false | Some m ↦ is_pulled_by (slice_index_or s.chains m.chain []) s.keys m chip k ]) e

-- the level of the key of a mark
abbrev key_level : BusState → KeyMatrix → Mark → ℕ
key_level s m mark = slice_index s.keys (mark.row * length m.columns.items + mark.column)

is_rom_line-of-column_line : (m : KeyMatrix) (j chip k : ℕ) → Rom chip k ≡ column_line m j → is_rom_line chip k (column_line m j) ≡ true
is_rom_line-of-column_line m j chip k e = ap (is_rom_line chip k) (sym e) ∙ and_from (eqb chip chip) (eqb k k) (eq-eqb chip chip refl) (eq-eqb k k refl)

pub key_level-1-if-line-pulled : (s : BusState) (m : KeyMatrix) (mark : Mark) (chip k : ℕ) → is_pulled_by (slice_index_or s.chains m.chain []) s.keys m chip k ≡ true → can_other_key_pull s m mark chip k ≡ false → key_level s m mark ≡ 1
key_level-1-if-line-pulled s m mark chip k pulled alone =
    let bits = slice_index_or s.chains m.chain [] in
    let rows = range_with_len 0 m.rows in
    let other : ℕ → ℕ → Bool = λ j r. is_row_driven s m r && not (eqb r mark.row && eqb j mark.column) in
    by-element-matching-p-not-q (λ j. is_rom_line chip k (column_line m j) && list_any (row_drives_column bits s.keys m j) rows) (λ j. is_rom_line chip k (column_line m j) && list_any (other j) rows) (key_level s m mark ≡ 1)
    (λ j is no.
    let line = and_parts (is_rom_line chip k (column_line m j)) (list_any (row_drives_column bits s.keys m j) rows) is in
    by-element-matching-p-not-q (row_drives_column bits s.keys m j) (other j) (key_level s m mark ≡ 1)
    (λ r drive none.
    let parts = and_parts (is_row_driven s m r) (eqb (slice_index s.keys (r * length m.columns.items + j)) 1) drive in
    let same = and_parts (eqb r mark.row) (eqb j mark.column) (not-false _ (right-false-if-and-false (is_row_driven s m r) (not (eqb r mark.row && eqb j mark.column)) parts.0 none)) in
    ap (λ i. slice_index s.keys (i * length m.columns.items + mark.column)) (sym (eqb-true r mark.row same.0))
    ∙ ap (λ i. slice_index s.keys (r * length m.columns.items + i)) (sym (eqb-true j mark.column same.1))
    ∙ eqb-true _ 1 parts.1)
    rows line.1 (right-false-if-and-false (is_rom_line chip k (column_line m j)) (list_any (other j) rows) line.0 no))
    (range_with_len 0 (length m.columns.items)) pulled alone

zero-if-below-two-and-not-one : (n : ℕ) → n < 2 → eqb n 1 ≡ false → n ≡ 0
zero-if-below-two-and-not-one n h e = (let other = eqb-false n 1 e in omega arith)

pub key_level-0-if-line-not-pulled : (s : BusState) (m : KeyMatrix) (mark : Mark) (chip k : ℕ) → Rom chip k ≡ column_line m mark.column → mark.row < m.rows → mark.column < length m.columns.items → key_level s m mark < 2 →
    is_pulled_by (slice_index_or s.chains m.chain []) s.keys m chip k ≡ false → is_row_driven s m mark.row ≡ true → key_level s m mark ≡ 0
key_level-0-if-line-not-pulled s m mark chip k line row column small pulled driven =
    let bits = slice_index_or s.chains m.chain [] in
    let rows = range_with_len 0 m.rows in
    let at = false-in-range-if-no-match (λ j. is_rom_line chip k (column_line m j) && list_any (row_drives_column bits s.keys m j) rows) (length m.columns.items) mark.column pulled column in
    let idle = right-false-if-and-false (is_rom_line chip k (column_line m mark.column)) (list_any (row_drives_column bits s.keys m mark.column) rows) (is_rom_line-of-column_line m mark.column chip k line) at in
    let rests = false-in-range-if-no-match (row_drives_column bits s.keys m mark.column) m.rows mark.row idle row in
    zero-if-below-two-and-not-one (key_level s m mark) small (right-false-if-and-false (is_row_driven s m mark.row) (eqb (key_level s m mark) 1) driven rests)

-- ---- marks that a read shows

pulled-if-bit-1 : (b : Bool) (n : ℕ) → n ≡ bit_when b → eqb n 1 ≡ true → b ≡ true
pulled-if-bit-1 true n e is = refl
pulled-if-bit-1 false n e is = (let one = eqb-true n 1 is in absurd (omega arith))

not-pulled-if-bit-0 : (b : Bool) (n : ℕ) → n ≡ bit_when b → eqb n 0 ≡ true → b ≡ false
not-pulled-if-bit-0 true n e is = (let none = eqb-true n 0 is in absurd (omega arith))
not-pulled-if-bit-0 false n e is = refl

key_level-if-bit-shows-mark : (s : BusState) (m : KeyMatrix) (mark : Mark) (chip k value : ℕ) (is_down : Bool) → s.board.keys ≡ Some m → Rom chip k ≡ column_line m mark.column → mark.row < m.rows → mark.column < length m.columns.items → key_level s m mark < 2 →
    bit_of value k ≡ bit_when (is_pulled s chip k) →
    cond is_down (eqb (bit_of value k) 1 && not (can_other_key_pull s m mark chip k)) (eqb (bit_of value k) 0 && is_row_driven s m mark.row) ≡ true → key_level s m mark ≡ bit_when is_down
key_level-if-bit-shows-mark s m mark chip k value true e line row column small bit is =
    let parts = and_parts (eqb (bit_of value k) 1) (not (can_other_key_pull s m mark chip k)) is in
    key_level-1-if-line-pulled s m mark chip k (sym (is_pulled-with-key-matrix s m chip k e) ∙ pulled-if-bit-1 (is_pulled s chip k) (bit_of value k) bit parts.0) (not-true (can_other_key_pull s m mark chip k) parts.1)
key_level-if-bit-shows-mark s m mark chip k value false e line row column small bit is =
    let parts = and_parts (eqb (bit_of value k) 0) (is_row_driven s m mark.row) is in
    key_level-0-if-line-not-pulled s m mark chip k line row column small (sym (is_pulled-with-key-matrix s m chip k e) ∙ not-pulled-if-bit-0 (is_pulled s chip k) (bit_of value k) bit parts.0) parts.1

key_level-if-line-shows-mark : (s : BusState) (m : KeyMatrix) (mark : Mark) (line : Line) → s.board.keys ≡ Some m → line ≡ column_line m mark.column → is_input_line s.board line ≡ true → mark.row < m.rows → mark.column < length m.columns.items → key_level s m mark < 2 →
    line_shows s m (port_of s) mark line ≡ true → key_level s m mark ≡ bit_when mark.is_down
key_level-if-line-shows-mark s m mark (Rom chip k) e line input row column small is =
    let parts = and_parts (eqb chip (s.rom_src / 16)) _ is in
    let selected : s.rom_src / 16 ≡ chip = sym (eqb-true chip (s.rom_src / 16) parts.0) in
    key_level-if-bit-shows-mark s m mark chip k (port_of s) mark.is_down e line row column small (ap (λ c. bit_of (port_at s c) k) selected ∙ port-bit-at-input-line s chip k input) parts.1
key_level-if-line-shows-mark s m mark (Ram bank chip k) e line input row column small is = absurd (cc)
key_level-if-line-shows-mark s m mark (Chain n i) e line input row column small is = absurd (cc)

-- the levels of keys are 0 or 1
pub key-level-below-two : (n i : ℕ) (keys : List ℕ) → AreBelow n 2 keys → slice_index keys i < 2
key-level-below-two n i keys fit =
    elim (cases_lt i (length keys)) [
      | inl within ↦ All-get_or (λ k. k < 2) keys i 0 within fit.below
      | inr past ↦ (let none = get_or_past keys i 0 past in omega arith)
    ]

key-level-if-matrix-shows-mark : (s : BusState) (mark : Mark) (o : Option KeyMatrix) → s.board.keys ≡ o → board_fault_of s.board ≡ None → AreBelow (key_count s.board) 2 s.keys →
    elim o as (λ _. Bool) [ Some m ↦ nat_lt mark.row m.rows && nat_lt mark.column (length m.columns.items) | None ↦ false ] ≡ true →
    elim o as (λ _. Bool) [ Some m ↦ line_shows s m (port_of s) mark (column_line m mark.column) | None ↦ false ] ≡ true →
    slice_index s.keys (elim o as (λ _. ℕ) [ Some m ↦ mark.row * length m.columns.items + mark.column | None ↦ 0 ]) ≡ bit_when mark.is_down
key-level-if-matrix-shows-mark s mark None e v fit key_exists is = absurd (cc)
key-level-if-matrix-shows-mark s mark (Some m) e v fit key_exists is =
    let parts = and_parts (nat_lt mark.row m.rows) (nat_lt mark.column (length m.columns.items)) key_exists in
    let column = ltb-true mark.column (length m.columns.items) parts.1 in
    key_level-if-line-shows-mark s m mark (column_line m mark.column) e refl (column_line-is-input-line s.board m mark.column v e column) (ltb-true mark.row m.rows parts.0) column
    (key-level-below-two (key_count s.board) (mark.row * length m.columns.items + mark.column) s.keys fit) is

at-mark-if-port-shows-mark : (l : Levels) (s : BusState) (mark : Mark) → board_fault_of s.board ≡ None → FitsBoard s.board l → port_shows (at_levels l s) (port_of (at_levels l s)) mark ≡ true → IsAtMark s.board l mark
at-mark-if-port-shows-mark l s mark v fit is =
    let parts = and_parts (has_key s.board mark.row mark.column) _ is in
    record { key_exists = parts.0; level = key-level-if-matrix-shows-mark (at_levels l s) mark s.board.keys refl v fit.keys parts.0 parts.1 }

pub at-mark-if-read-shows-mark : (l : Levels) (s : BusState) (mark : Mark) (o : Option Op) → board_fault_of s.board ≡ None → FitsBoard s.board l → shows o (at_levels l s) (port_of (at_levels l s)) mark ≡ true → IsAtMark s.board l mark
at-mark-if-read-shows-mark l s mark (Some Rdr) v fit is = at-mark-if-port-shows-mark l s mark v fit is
at-mark-if-read-shows-mark l s mark _ v fit is = absurd (cc)
