-- Lemmas about the lists of chip values (`ChipList`), index by index.
use Rattle.std.proofs.Common.{◌≡◌, ℕ, ◌+◌, ◌*◌, ◌/◌, ◌%◌, ◌<◌, ◌≤◌, true, false, inl, inr, cond, List, length, get_or, slice_index, slice_set, Option, Some, None, is_some, is_none, nat_lt, nat_le, refl, sym, ap, subst, ◌∙◌, arith}
use Rattle.std.specs.Prelude.{MatchOption}
use Rattle.std.proofs.lemmas.Bool.{cases_lt, le-leb, leb-true}
use Rattle.std.proofs.lemmas.Bool.Decides.{nat_tests}
use Rattle.mcs_nibble.specs.declared.lines.LineMask.{LineMask}
use Rattle.mcs_model.specs.Boards.{rom_masks}
use Rattle.mcs_model.specs.Bus.{BusState, with_ram, with_status}
use Rattle.mcs_model.specs.declared.board.BoardParts.{BoardParts}
use Rattle.mcs_model.specs.Levels.{with_rom_ports_at}
use Rattle.mcs_nibble.specs.Ports.{latch_value}
use Rattle.mcs_nibble.proofs.PortLemmas.{latch_value-zero}
use Rattle.std.proofs.lemmas.List.{get_or_past}
use Rattle.mcs_model.specs.ChipWrites.{with_rom_latch, with_rom_byte, with_ram_latch, with_ram_src}
use Rattle.mcs_model.specs.Validity.{IsInRange, AbsentPartsAreZero}
use Rattle.mcs_bench.specs.declared.chip_list.ChipList.{ChipList}
use Rattle.mcs_bench.specs.declared.chip_list.ChipList.TheVariants.{RomBytes, RamNibbles, StatusCharacters, RamPorts, BankSrcBytes}
use Rattle.mcs_bench.specs.ChipLists.{chip_list_in, with_chip_list, chip_list_length, is_chip_absent, with_chip_value, IsZeroWhereAbsent}
use Rattle.mcs_bench.proofs.Filling.{IsFilled, filled-at-start, filled-after-set, filled-if-element-kept, filled-list-is-goal}

-- ---- setting one element of a list

cond-lt-as-cond-le : {A : Type 0} (a b : ℕ) (x y : A) → cond (nat_lt a b) x y ≡ cond (nat_le b a) y x
cond-lt-as-cond-le a b x y =
    elim (cases_lt a b) [
      | inl l ↦ (let lt : nat_lt a b ≡ true = grind (arith, nat_tests) in let le : nat_le b a ≡ false = grind (arith, nat_tests) in rw (lt, le) refl)
      | inr g ↦ (let lt : nat_lt a b ≡ false = grind (arith, nat_tests) in let le : nat_le b a ≡ true = grind (arith, nat_tests) in rw (lt, le) refl)
    ]

cond-is_some-as-is_none : {X A : Type 0} (o : Option X) (x y : A) → cond (is_some o) x y ≡ cond (is_none o) y x
cond-is_some-as-is_none (Some _) x y = refl
cond-is_some-as-is_none None x y = refl

pub with_rom_byte-is-with_chip_value : (s : BusState) (i at n : ℕ) → at ≡ i → with_rom_byte s at n ≡ with_chip_value s RomBytes i n
unfolding with_rom_byte
with_rom_byte-is-with_chip_value s i at n e = rw e (cond-is_some-as-is_none (rom_masks s.board (i / 256)) (record s { rom = slice_set s.rom i n }) s)

pub with_ram-is-with_chip_value : (s : BusState) (i bank src m n : ℕ) → bank ≡ i / 256 → src ≡ i % 256 → m ≡ n → with_ram s bank src m ≡ with_chip_value s RamNibbles i n
unfolding with_ram
with_ram-is-with_chip_value s i bank src m n b c e =
    let place : i / 256 * 256 + i % 256 ≡ i = omega arith in
    rw (b, c, e, place) (cond-lt-as-cond-le (i % 256 / 64) (slice_index s.board.banks (i / 256)) (record s { ram = slice_set s.ram i n }) s)

pub with_status-is-with_chip_value : (s : BusState) (i bank high k m n : ℕ) → bank ≡ i / 64 → high ≡ i % 64 / 4 → k ≡ i % 4 → m ≡ n → with_status s bank high k m ≡ with_chip_value s StatusCharacters i n
unfolding with_status
with_status-is-with_chip_value s i bank high k m n b h c e =
    let place : i / 64 * 64 + (i % 64 / 4 * 4 + i % 4) ≡ i = omega arith in
    let chip : i % 64 / 4 / 4 ≡ i % 64 / 16 = omega arith in
    rw (b, h, c, e, place, chip) (cond-lt-as-cond-le (i % 64 / 16) (slice_index s.board.banks (i / 64)) (record s { status = slice_set s.status i n }) s)

pub with_ram_latch-is-with_chip_value : (s : BusState) (i bank chip m n : ℕ) → bank ≡ i / 4 → chip ≡ i % 4 → m ≡ n → with_ram_latch s bank chip m ≡ with_chip_value s RamPorts i n
unfolding with_ram_latch
with_ram_latch-is-with_chip_value s i bank chip m n b c e =
    let place : i / 4 * 4 + i % 4 ≡ i = omega arith in
    rw (b, c, e, place) (cond-lt-as-cond-le (i % 4) (slice_index s.board.banks (i / 4)) (record s { ram_ports = slice_set s.ram_ports i n }) s)

pub with_ram_src-is-with_chip_value : (s : BusState) (i bank n : ℕ) → bank ≡ i → with_ram_src s bank n ≡ with_chip_value s BankSrcBytes i n
unfolding with_ram_src
with_ram_src-is-with_chip_value s i bank n b = rw b (cond-lt-as-cond-le 0 (slice_index s.board.banks i) (record s { ram_src = slice_set s.ram_src i n }) s)

-- ---- replacing a list of a state

pub chip_list_in-with_chip_list : (s : BusState) (h : ChipList) (xs : List ℕ) → chip_list_in (with_chip_list s h xs) h ≡ xs
chip_list_in-with_chip_list s RomBytes xs = refl
chip_list_in-with_chip_list s RamNibbles xs = refl
chip_list_in-with_chip_list s StatusCharacters xs = refl
chip_list_in-with_chip_list s RamPorts xs = refl
chip_list_in-with_chip_list s BankSrcBytes xs = refl

pub with_chip_list-twice : (s : BusState) (h : ChipList) (xs ys : List ℕ) → with_chip_list (with_chip_list s h xs) h ys ≡ with_chip_list s h ys
with_chip_list-twice s RomBytes xs ys = refl
with_chip_list-twice s RamNibbles xs ys = refl
with_chip_list-twice s StatusCharacters xs ys = refl
with_chip_list-twice s RamPorts xs ys = refl
with_chip_list-twice s BankSrcBytes xs ys = refl

pub with_chip_list-of-same-list : (s : BusState) (h : ChipList) → with_chip_list s h (chip_list_in s h) ≡ s
with_chip_list-of-same-list s RomBytes = refl
with_chip_list-of-same-list s RamNibbles = refl
with_chip_list-of-same-list s StatusCharacters = refl
with_chip_list-of-same-list s RamPorts = refl
with_chip_list-of-same-list s BankSrcBytes = refl

pub board-of-with_chip_list : (s : BusState) (h : ChipList) (xs : List ℕ) → (with_chip_list s h xs).board ≡ s.board
board-of-with_chip_list s RomBytes xs = refl
board-of-with_chip_list s RamNibbles xs = refl
board-of-with_chip_list s StatusCharacters xs = refl
board-of-with_chip_list s RamPorts xs = refl
board-of-with_chip_list s BankSrcBytes xs = refl

-- ---- the lists of a valid state

pub chip-list-length-if-in-range : (s : BusState) → IsInRange s → (h : ChipList) → length (chip_list_in s h) ≡ chip_list_length h
chip-list-length-if-in-range s v RomBytes = v.rom.has_count
chip-list-length-if-in-range s v RamNibbles = v.ram.has_count
chip-list-length-if-in-range s v StatusCharacters = v.status.has_count
chip-list-length-if-in-range s v RamPorts = v.ram_ports.has_count
chip-list-length-if-in-range s v BankSrcBytes = v.ram_src.has_count

none-if-is_none : {X : Type 0} (o : Option X) → is_none o ≡ true → o ≡ None
none-if-is_none (Some _) e = absurd (cc)
none-if-is_none None e = refl

-- in each list of a valid state, the elements of absent chips are 0
pub zero-where-absent-if-valid : (s : BusState) → AbsentPartsAreZero s → (h : ChipList) → IsZeroWhereAbsent s h
zero-where-absent-if-valid s v RomBytes i l e = v.rom i (none-if-is_none (rom_masks s.board (i / 256)) e)
zero-where-absent-if-valid s v RamNibbles i l e =
    let place : i / 256 * 256 + i % 256 ≡ i = omega arith in
    rw place at (v.ram (i / 256) (i % 256) (omega arith) (leb-true _ _ e))
zero-where-absent-if-valid s v StatusCharacters i below e =
    let place : i / 64 * 64 + (i % 64 / 4 * 4 + i % 4) ≡ i = omega arith in
    let chip : i % 64 / 4 / 4 ≡ i % 64 / 16 = omega arith in
    rw place at (v.status (i / 64) (i % 64 / 4) (i % 4) (omega arith) (omega arith) (let l = leb-true _ _ e in omega arith))
zero-where-absent-if-valid s v RamPorts i l e =
    let place : i / 4 * 4 + i % 4 ≡ i = omega arith in
    rw place at (v.ram_ports (i / 4) (i % 4) (omega arith) (leb-true _ _ e))
zero-where-absent-if-valid s v BankSrcBytes i below e = v.ram_src i (let l = leb-true _ _ e in omega arith)

zero-past-end : (xs : List ℕ) (i : ℕ) → length xs ≤ i → slice_index xs i ≡ 0
zero-past-end xs i l = get_or_past xs i 0 l

pub absent-parts-zero-if-lists-zero : (s : BusState) → IsInRange s → ((h : ChipList) → IsZeroWhereAbsent s h) → ((chip : ℕ) → MatchOption (rom_masks s.board chip) (slice_index s.rom_ports chip ≡ 0) (λ mask. latch_value mask (slice_index s.rom_ports chip) ≡ slice_index s.rom_ports chip)) → AbsentPartsAreZero s
absent-parts-zero-if-lists-zero s v zero ports = record {
  rom = λ at none.
      elim (cases_lt at 4096) [
        | inl l ↦ zero RomBytes at l (ap is_none none)
        | inr g ↦ zero-past-end s.rom at (let e = v.rom.has_count in omega arith)
      ];
  ram = λ bank src l chip_absent.
      elim (cases_lt (bank * 256 + src) 2048) [
        | inl h ↦ zero RamNibbles (bank * 256 + src) h (let b : (bank * 256 + src) / 256 ≡ bank = omega arith in let c : (bank * 256 + src) % 256 ≡ src = omega arith in rw (b, c) (le-leb (slice_index s.board.banks bank) (src / 64) chip_absent))
        | inr g ↦ zero-past-end s.ram (bank * 256 + src) (let e = v.ram.has_count in omega arith)
      ];
  status = λ bank high k h16 k4 chip_absent.
      elim (cases_lt (bank * 64 + (high * 4 + k)) 512) [
        | inl h ↦ zero StatusCharacters (bank * 64 + (high * 4 + k)) h (let b : (bank * 64 + (high * 4 + k)) / 64 ≡ bank = omega arith in let c : (bank * 64 + (high * 4 + k)) % 64 / 16 ≡ high / 4 = omega arith in rw (b, c) (le-leb (slice_index s.board.banks bank) (high / 4) chip_absent))
        | inr g ↦ zero-past-end s.status (bank * 64 + (high * 4 + k)) (let e = v.status.has_count in omega arith)
      ];
  ram_ports = λ bank chip l chip_absent.
      elim (cases_lt (bank * 4 + chip) 32) [
        | inl h ↦ zero RamPorts (bank * 4 + chip) h (let b : (bank * 4 + chip) / 4 ≡ bank = omega arith in let c : (bank * 4 + chip) % 4 ≡ chip = omega arith in rw (b, c) (le-leb (slice_index s.board.banks bank) chip chip_absent))
        | inr g ↦ zero-past-end s.ram_ports (bank * 4 + chip) (let e = v.ram_ports.has_count in omega arith)
      ];
  rom_ports = ports;
  ram_src = λ bank none.
      elim (cases_lt bank 8) [
        | inl h ↦ zero BankSrcBytes bank h (le-leb (slice_index s.board.banks bank) 0 (omega arith))
        | inr g ↦ zero-past-end s.ram_src bank (let e = v.ram_src.has_count in omega arith)
      ];
}

-- if the elements of absent chips are 0 in each of the five lists, they are 0 in a list of any kind
pub zero-where-absent-in-each-list : (s : BusState) → IsZeroWhereAbsent s RomBytes → IsZeroWhereAbsent s RamNibbles → IsZeroWhereAbsent s StatusCharacters → IsZeroWhereAbsent s RamPorts → IsZeroWhereAbsent s BankSrcBytes → (h : ChipList) → IsZeroWhereAbsent s h
zero-where-absent-in-each-list s a b c d e RomBytes = a
zero-where-absent-in-each-list s a b c d e RamNibbles = b
zero-where-absent-in-each-list s a b c d e StatusCharacters = c
zero-where-absent-in-each-list s a b c d e RamPorts = d
zero-where-absent-in-each-list s a b c d e BankSrcBytes = e

-- ---- filling a list

-- Holds if `s` is `start` except for the list `h`. The first `i` elements of that list are those of
-- `goal`, and the others are unchanged.
pub record Fills (start s : BusState) (h : ChipList) (goal : List ℕ) (i : ℕ) : Type 0 where
  pub others : s ≡ with_chip_list start h (chip_list_in s h)
  pub filled : IsFilled (chip_list_in start h) goal i (chip_list_in s h)

pub chip-list-filled-at-start : (start : BusState) (h : ChipList) (goal : List ℕ) → length (chip_list_in start h) ≡ length goal → Fills start start h goal 0
chip-list-filled-at-start start h goal l = record { others = sym (with_chip_list-of-same-list start h); filled = filled-at-start (chip_list_in start h) goal l }

chip-list-filled-after-set : (start s t : BusState) (h : ChipList) (goal : List ℕ) (i n : ℕ) → i < length goal → n ≡ get_or goal i 0 → Fills start s h goal i → t ≡ with_chip_list s h (slice_set (chip_list_in s h) i n) → Fills start t h goal (i + 1)
chip-list-filled-after-set start s t h goal i n l is f to =
    let ys = slice_set (chip_list_in s h) i n in
    let now : chip_list_in t h ≡ ys = ap (λ (u : BusState). chip_list_in u h) to ∙ chip_list_in-with_chip_list s h ys in
    record {
      others = to ∙ ap (λ (u : BusState). with_chip_list u h ys) f.others ∙ with_chip_list-twice start h (chip_list_in s h) ys ∙ ap (with_chip_list start h) (sym now);
      filled = subst (IsFilled (chip_list_in start h) goal (i + 1)) (sym now) (filled-after-set (chip_list_in start h) goal (chip_list_in s h) i i n l refl is f.filled);
    }

chip-list-filled-if-element-kept : (start s t : BusState) (h : ChipList) (goal : List ℕ) (i : ℕ) → get_or (chip_list_in start h) i 0 ≡ get_or goal i 0 → Fills start s h goal i → t ≡ s → Fills start t h goal (i + 1)
chip-list-filled-if-element-kept start s t h goal i same f to = subst (λ (u : BusState). Fills start u h goal (i + 1)) (sym to) (record { others = f.others; filled = filled-if-element-kept (chip_list_in start h) goal (chip_list_in s h) i same f.filled })

pub chip-list-filled-with-next : (start s t : BusState) (h : ChipList) (goal : List ℕ) (i n : ℕ) → i < length goal → n ≡ get_or goal i 0 → (is_chip_absent start.board h i ≡ true → get_or (chip_list_in start h) i 0 ≡ get_or goal i 0) → Fills start s h goal i → t ≡ with_chip_value s h i n → Fills start t h goal (i + 1)
chip-list-filled-with-next start s t h goal i n l is zero_if_absent f to =
    let board : s.board ≡ start.board = ap (λ (u : BusState). u.board) f.others ∙ board-of-with_chip_list start h (chip_list_in s h) in
    elim (is_chip_absent s.board h i) as (λ v. is_chip_absent s.board h i ≡ v → t ≡ cond v s (with_chip_list s h (slice_set (chip_list_in s h) i n)) → Fills start t h goal (i + 1)) [
      | true ↦ λ e to. chip-list-filled-if-element-kept start s t h goal i (zero_if_absent (subst (λ (b : BoardParts). is_chip_absent b h i ≡ true) board e)) f to
      | false ↦ λ e to. chip-list-filled-after-set start s t h goal i n l is f to
    ] refl to

pub chip-list-filled-completely : (start s : BusState) (h : ChipList) (goal : List ℕ) (i : ℕ) → length goal ≤ i → Fills start s h goal i → s ≡ with_chip_list start h goal
chip-list-filled-completely start s h goal i l f = f.others ∙ ap (with_chip_list start h) (filled-list-is-goal (chip_list_in start h) goal (chip_list_in s h) i l f.filled)

-- ---- filling the port latches of the ROMs

-- Holds if `s` is `start` except for the port latches of the ROMs. The first `i` latches are those
-- of `goal`, and the others are unchanged.
pub record FillsPorts (start s : BusState) (goal : List ℕ) (i : ℕ) : Type 0 where
  pub others : s ≡ record start { rom_ports = s.rom_ports }
  pub filled : IsFilled start.rom_ports goal i s.rom_ports

-- holds if a ROM's port latch can hold `n`; the latch of an absent ROM can hold only 0
abbrev pub latch_can_hold : Option (List LineMask) → ℕ → Type 0
latch_can_hold masks n = MatchOption masks (n ≡ 0) (λ mask. latch_value mask n ≡ n)

ports-filled-with-next-for-masks : (masks : Option (List LineMask)) (start s t : BusState) (goal : List ℕ) (i n : ℕ) → i < length goal → n ≡ get_or goal i 0 → latch_can_hold masks (get_or goal i 0) → latch_can_hold masks (get_or start.rom_ports i 0) → FillsPorts start s goal i → t ≡ elim masks [ Some mask ↦ with_rom_ports_at s i (latch_value mask n) | None ↦ s ] → FillsPorts start t goal (i + 1)
ports-filled-with-next-for-masks (Some mask) start s t goal i n l is new old f to =
    let now : t.rom_ports ≡ slice_set s.rom_ports i (latch_value mask n) = ap (λ (u : BusState). u.rom_ports) to in
    record {
      others = to ∙ ap (λ (u : BusState). record u { rom_ports = slice_set s.rom_ports i (latch_value mask n) }) f.others ∙ ap (λ xs. record start { rom_ports = xs }) (sym now);
      filled = subst (IsFilled start.rom_ports goal (i + 1)) (sym now) (filled-after-set start.rom_ports goal s.rom_ports i i (latch_value mask n) l refl (ap (latch_value mask) is ∙ new) f.filled);
    }
ports-filled-with-next-for-masks None start s t goal i n l is new old f to =
    subst (λ (u : BusState). FillsPorts start u goal (i + 1)) (sym to) (record { others = f.others; filled = filled-if-element-kept start.rom_ports goal s.rom_ports i (old ∙ sym new) f.filled })

pub ports-filled-with-next : (start s t : BusState) (goal : List ℕ) (i n : ℕ) → i < length goal → n ≡ get_or goal i 0 → latch_can_hold (rom_masks start.board i) (get_or goal i 0) → latch_can_hold (rom_masks start.board i) (get_or start.rom_ports i 0) → FillsPorts start s goal i → t ≡ with_rom_latch s i n → FillsPorts start t goal (i + 1)
unfolding with_rom_latch
ports-filled-with-next start s t goal i n l is new old f to =
    let board : start.board ≡ s.board = sym (ap (λ (u : BusState). u.board) f.others) in
    let hold = λ (x : ℕ) (h : latch_can_hold (rom_masks start.board i) x). subst (λ (b : BoardParts). latch_can_hold (rom_masks b i) x) board h in
    ports-filled-with-next-for-masks (rom_masks s.board i) start s t goal i n l is (hold (get_or goal i 0) new) (hold (get_or start.rom_ports i 0) old) f to

pub latch-can-hold-zero : (masks : Option (List LineMask)) (n : ℕ) → n ≡ 0 → latch_can_hold masks n
latch-can-hold-zero (Some mask) n e = ap (latch_value mask) e ∙ latch_value-zero mask ∙ sym e
latch-can-hold-zero None n e = e
