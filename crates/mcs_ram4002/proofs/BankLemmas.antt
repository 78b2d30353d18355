-- Reads and writes of one chip, and the flat lists of its bank. A cell is a main nibble or a status
-- character.
use Rattle.std.proofs.Common.{◌≡◌, ℕ, ◌+◌, ◌*◌, ◌/◌, ◌%◌, ◌<◌, ◌≤◌, inl, inr, List, [], length, get_or, slice_set, slice_index, take, refl, sym, ap, ◌∙◌, arith, replicate, subst}
use Rattle.std.proofs.Math.Seq.{take-set-lt}
use Rattle.std.proofs.lemmas.Grind.{common_steps}
use Rattle.std.proofs.lemmas.Bool.{cases_lt}
use Rattle.std.specs.Prelude.{All}
use Rattle.std.proofs.lemmas.List.{get_or_default, get_or_past, get_or-replicate, get_or-take}
use Rattle.std.proofs.lemmas.List.Elements.{All-get_or, All-take}
use Rattle.mcs_nibble.specs.Tables.{flat_rows, column}
use Rattle.mcs_nibble.proofs.FlatRowsLemmas.{get-flat_rows, set-flat_rows, flat_rows-unchanged, length-flat_rows, zero-flat_rows, get-column, set-column, column-unchanged, length-column, zero-column}
use Rattle.mcs_ram4002.specs.declared.BankWrite.{BankWrite}
use Rattle.mcs_ram4002.specs.declared.BankWrite.TheVariants.{Character, Status, Port, Src}
use Rattle.mcs_ram4002.specs.declared.Chip.{Chip}
use Rattle.mcs_ram4002.specs.RamBank.{BankState, ChipState, unpacked_nibbles, contents_of_chip, absent_chip, bank_of, blank_bank, main_cells_of, status_cells_of, status_cell_index, target_chip, chip_after, src_after, with_write, IsInBank, IsSizedChip, IsValidChip, HasFixedLengths, IsValidBank}
use Rattle.mcs_ram4002.proofs.BelowLimit.{element-below_limit, flat_rows-below_limit, column-below_limit}
use Rattle.mcs_ram4002.proofs.PackedNibbles.{unpacked_nibbles-below_16, unpacked_nibbles-of_zeros, unpacked_nibbles-of_empty_list}

length-present_chips : (chips : List Chip) (chip_count : ℕ) → chip_count ≤ length chips → length (take chip_count chips) ≡ chip_count
length-present_chips chips chip_count l = grind (arith, common_steps)

-- If `i` is below `chip_count`, chip `i` of the bank is chip `i` of the list.
present_chip-at_index : (chips : List Chip) (chip_count i : ℕ) (x : Chip) → i < chip_count → chip_count ≤ length chips → get_or (take chip_count chips) i absent_chip ≡ get_or chips i x
present_chip-at_index chips chip_count i x h l = get_or-take chip_count chips i absent_chip h ∙ get_or_default chips i absent_chip x (omega arith)

absent_chip-at_index : (chips : List Chip) (chip_count i : ℕ) → chip_count ≤ i → get_or (take chip_count chips) i absent_chip ≡ absent_chip
absent_chip-at_index chips chip_count i h = grind (arith, common_steps)

-- Cell `k` of chip `i` is at index `i * width + k` of the flat list. For an absent chip, the list
-- has 0 at this index.
pub present_cell-in_flat_list : (width : ℕ) (f : Chip → List ℕ) (chips : List Chip) (chip_count i k p : ℕ) (x : Chip) → i < 4 → k < width → p ≡ i * width + k → i < chip_count → chip_count ≤ length chips → slice_index (f (get_or chips i x)) k ≡ slice_index (flat_rows 4 width f absent_chip (take chip_count chips)) p
present_cell-in_flat_list width f chips chip_count i k p x h l at present fits =
    ap (λ c. slice_index (f c) k) (sym (present_chip-at_index chips chip_count i x present fits))
    ∙ sym (get-flat_rows 4 width f absent_chip (take chip_count chips) i k h l)
    ∙ ap (slice_index (flat_rows 4 width f absent_chip (take chip_count chips))) (sym at)

pub absent_cell-in_flat_list : (width : ℕ) (f : Chip → List ℕ) (chips : List Chip) (chip_count i k p : ℕ) → slice_index (f absent_chip) k ≡ 0 → i < 4 → k < width → p ≡ i * width + k → chip_count ≤ i → 0 ≡ slice_index (flat_rows 4 width f absent_chip (take chip_count chips)) p
absent_cell-in_flat_list width f chips chip_count i k p none h l at absent =
    sym (ap (slice_index (flat_rows 4 width f absent_chip (take chip_count chips))) at
    ∙ get-flat_rows 4 width f absent_chip (take chip_count chips) i k h l
    ∙ ap (λ c. slice_index (f c) k) (absent_chip-at_index chips chip_count i absent)
    ∙ none)

pub port-read : (chips : List Chip) (chip_count src i : ℕ) (x : Chip) → i < 4 → i < chip_count → chip_count ≤ length chips → (get_or chips i x).port ≡ slice_index (bank_of chips chip_count src).ports i
port-read chips chip_count src i x h present fits =
    ap (λ (c : Chip). c.port) (sym (present_chip-at_index chips chip_count i x present fits)) ∙ sym (get-column 4 (λ (c : Chip). c.port) absent_chip (take chip_count chips) i h)

pub port-of_absent_chip : (chips : List Chip) (chip_count src i : ℕ) → i < 4 → chip_count ≤ i → 0 ≡ slice_index (bank_of chips chip_count src).ports i
port-of_absent_chip chips chip_count src i h absent =
    sym (get-column 4 (λ (c : Chip). c.port) absent_chip (take chip_count chips) i h ∙ ap (λ (c : Chip). c.port) (absent_chip-at_index chips chip_count i absent))

-- A present chip is within the bank's list of chips.
present_index-in_range : (chips : List Chip) (chip_count i : ℕ) → i < chip_count → chip_count ≤ length chips → i < length (take chip_count chips)
present_index-in_range chips chip_count i present fits = let e = length-present_chips chips chip_count fits in omega arith

-- If chip `d` replaces chip `i` and has the same cells, the flat list of these cells stays the
-- same.
cells-unchanged_by_set_chip : (width : ℕ) (f : Chip → List ℕ) (chips : List Chip) (chip_count i : ℕ) (x d : Chip) → i < chip_count → chip_count ≤ length chips → f d ≡ f (get_or chips i x) → flat_rows 4 width f absent_chip (take chip_count (slice_set chips i d)) ≡ flat_rows 4 width f absent_chip (take chip_count chips)
cells-unchanged_by_set_chip width f chips chip_count i x d present fits same =
    ap (flat_rows 4 width f absent_chip) (take-set-lt chip_count chips i d present)
    ∙ flat_rows-unchanged 4 width f absent_chip (take chip_count chips) i d (present_index-in_range chips chip_count i present fits) (same ∙ ap f (sym (present_chip-at_index chips chip_count i x present fits)))

ports-unchanged_by_set_chip : (chips : List Chip) (chip_count i : ℕ) (x d : Chip) → i < chip_count → chip_count ≤ length chips → d.port ≡ (get_or chips i x).port → column 4 (λ (c : Chip). c.port) absent_chip (take chip_count (slice_set chips i d)) ≡ column 4 (λ (c : Chip). c.port) absent_chip (take chip_count chips)
ports-unchanged_by_set_chip chips chip_count i x d present fits same =
    ap (column 4 (λ (c : Chip). c.port) absent_chip) (take-set-lt chip_count chips i d present)
    ∙ column-unchanged 4 (λ (c : Chip). c.port) absent_chip (take chip_count chips) i d (present_index-in_range chips chip_count i present fits) (same ∙ ap (λ (c : Chip). c.port) (sym (present_chip-at_index chips chip_count i x present fits)))

-- If chip `d` replaces chip `i` and differs from it only in cell `k`, element `p` of the flat list
-- becomes the new value `n` of this cell.
cells-after_cell_write : (width : ℕ) (f : Chip → List ℕ) (chips : List Chip) (chip_count i k p n : ℕ) (x d : Chip) → i < 4 → k < width → p ≡ i * width + k → i < chip_count → chip_count ≤ length chips → length (f (get_or chips i x)) ≡ width → f d ≡ slice_set (f (get_or chips i x)) k n → flat_rows 4 width f absent_chip (take chip_count (slice_set chips i d)) ≡ slice_set (flat_rows 4 width f absent_chip (take chip_count chips)) p n
cells-after_cell_write width f chips chip_count i k p n x d h l at present fits len new =
    let old = present_chip-at_index chips chip_count i x present fits in
    ap (flat_rows 4 width f absent_chip) (take-set-lt chip_count chips i d present)
    ∙ set-flat_rows 4 width f absent_chip (take chip_count chips) i k d n h l (present_index-in_range chips chip_count i present fits) (rw old (omega arith)) (new ∙ ap (λ c. slice_set (f c) k n) (sym old))
    ∙ ap (λ j. slice_set (flat_rows 4 width f absent_chip (take chip_count chips)) j n) (sym at)

-- If `d` is chip `i` after a write to chip `i`, the bank with `d` in place of chip `i` is the bank
-- after the write.
pub bank_of-after_chip_write : (chips : List Chip) (chip_count src i : ℕ) (x d : Chip) (write : BankWrite) → IsInBank write → i ≡ target_chip write → i < 4 → i < chip_count → chip_count ≤ length chips → IsSizedChip (get_or chips i x) → contents_of_chip d ≡ chip_after (contents_of_chip (get_or chips i x)) write → bank_of (slice_set chips i d) chip_count (src_after write src) ≡ with_write (bank_of chips chip_count src) write
bank_of-after_chip_write chips chip_count src i x d (Character at n) place is h present fits sized new =
    rw (cells-after_cell_write 64 main_cells_of chips chip_count i (at % 64) at n x d h (omega arith) (omega arith) present fits sized.main (ap (λ (c : ChipState). c.main) new), cells-unchanged_by_set_chip 16 status_cells_of chips chip_count i x d present fits (ap (λ (c : ChipState). c.status) new), ports-unchanged_by_set_chip chips chip_count i x d present fits (ap (λ (c : ChipState). c.port) new)) refl
bank_of-after_chip_write chips chip_count src i x d (Status high k n) place is h present fits sized new =
    rw (cells-unchanged_by_set_chip 64 main_cells_of chips chip_count i x d present fits (ap (λ (c : ChipState). c.main) new), cells-after_cell_write 16 status_cells_of chips chip_count i (high % 4 * 4 + k) (status_cell_index high k) n x d h (omega arith) (omega arith) present fits sized.status (ap (λ (c : ChipState). c.status) new), ports-unchanged_by_set_chip chips chip_count i x d present fits (ap (λ (c : ChipState). c.port) new)) refl
bank_of-after_chip_write chips chip_count src i x d (Port chip n) place is h present fits sized new =
    let ports =
    ap (column 4 (λ (c : Chip). c.port) absent_chip) (take-set-lt chip_count chips i d present)
    ∙ set-column 4 (λ (c : Chip). c.port) absent_chip (take chip_count chips) i d n h (present_index-in_range chips chip_count i present fits) (ap (λ (c : ChipState). c.port) new)
    ∙ ap (λ j. slice_set (column 4 (λ (c : Chip). c.port) absent_chip (take chip_count chips)) j n) is in
    rw (cells-unchanged_by_set_chip 64 main_cells_of chips chip_count i x d present fits (ap (λ (c : ChipState). c.main) new), cells-unchanged_by_set_chip 16 status_cells_of chips chip_count i x d present fits (ap (λ (c : ChipState). c.status) new), ports) refl
bank_of-after_chip_write chips chip_count src i x d (Src byte) place is h present fits sized new =
    rw (cells-unchanged_by_set_chip 64 main_cells_of chips chip_count i x d present fits (ap (λ (c : ChipState). c.main) new), cells-unchanged_by_set_chip 16 status_cells_of chips chip_count i x d present fits (ap (λ (c : ChipState). c.status) new), ports-unchanged_by_set_chip chips chip_count i x d present fits (ap (λ (c : ChipState). c.port) new)) refl

-- ---- properties of every bank

bank_of-has_fixed_lengths : (chips : List Chip) (chip_count src : ℕ) → HasFixedLengths (bank_of chips chip_count src)
bank_of-has_fixed_lengths chips chip_count src = record { main = length-flat_rows 4 64 _ _ _; status = length-flat_rows 4 16 _ _ _; ports = length-column 4 _ _ _ }

pub bank-has_fixed_lengths : (b : BankState) (chips : List Chip) (chip_count src : ℕ) → bank_of chips chip_count src ≡ b → HasFixedLengths b
bank-has_fixed_lengths b chips chip_count src is = subst HasFixedLengths is (bank_of-has_fixed_lengths chips chip_count src)

-- If all chips of a list are valid, so is each chip of the bank, present or absent.
each_chip-valid : (chips : List Chip) (chip_count i : ℕ) → All IsValidChip chips → IsValidChip (get_or (take chip_count chips) i absent_chip)
each_chip-valid chips chip_count i valid =
    elim (cases_lt i (length (take chip_count chips))) [
      | inl l ↦ All-get_or IsValidChip (take chip_count chips) i absent_chip l (All-take IsValidChip chip_count chips valid)
      | inr absent ↦ subst IsValidChip (sym (get_or_past (take chip_count chips) i absent_chip absent)) (record { main = unpacked_nibbles-below_16 []; status = unpacked_nibbles-below_16 []; port = omega arith })
    ]

pub bank-is_valid : (b : BankState) (chips : List Chip) (chip_count src : ℕ) → bank_of chips chip_count src ≡ b → src < 256 → (chip_count ≡ 0 → src ≡ 0) → All IsValidChip chips → IsValidBank b
bank-is_valid b chips chip_count src is small zero_src valid =
    let at : IsValidBank (bank_of chips chip_count src) = record {
      whole = bank_of-has_fixed_lengths chips chip_count src;
      main = flat_rows-below_limit 4 64 16 main_cells_of absent_chip (take chip_count chips) (λ i k. element-below_limit 16 _ k (omega arith) (each_chip-valid chips chip_count i valid).main);
      status = flat_rows-below_limit 4 16 16 status_cells_of absent_chip (take chip_count chips) (λ i k. element-below_limit 16 _ k (omega arith) (each_chip-valid chips chip_count i valid).status);
      ports = column-below_limit 4 16 (λ (c : Chip). c.port) absent_chip (take chip_count chips) (λ i. (each_chip-valid chips chip_count i valid).port);
      src = small;
      absent_main = λ at l absent. sym (absent_cell-in_flat_list 64 main_cells_of chips chip_count (at / 64) (at % 64) at (unpacked_nibbles-of_empty_list (at % 64)) (omega arith) (omega arith) (omega arith) absent);
      absent_status = λ high k h l absent. sym (absent_cell-in_flat_list 16 status_cells_of chips chip_count (high / 4) (high % 4 * 4 + k) (status_cell_index high k) (unpacked_nibbles-of_empty_list (high % 4 * 4 + k)) (omega arith) (omega arith) (omega arith) absent);
      absent_port = λ chip l absent. sym (port-of_absent_chip chips chip_count src chip l absent);
      absent_src = zero_src;
    } in
    subst IsValidBank is at

-- If `f` gives `x` for a blank chip and for an absent chip, `f` gives `x` for each chip of a blank
-- bank.
blank_chip-value : {X : Type 0} (f : Chip → X) (x : X) (n chip_count i : ℕ) (b : Chip) → chip_count ≤ n → f b ≡ x → f absent_chip ≡ x → f (get_or (take chip_count (replicate n b)) i absent_chip) ≡ x
blank_chip-value f x n chip_count i b l here none =
    elim (cases_lt i chip_count) [
      | inl h ↦ ap f (get_or-take chip_count (replicate n b) i absent_chip h ∙ get_or-replicate n i b absent_chip (omega arith)) ∙ here
      | inr h ↦ ap f (absent_chip-at_index (replicate n b) chip_count i h) ∙ none
    ]

-- A list of zeros reads as 0 at each index, even past its end.
pub slice_index-zeros : (n k : ℕ) → slice_index (replicate n 0) k ≡ 0
slice_index-zeros n k = grind (arith, common_steps)

unpacked_zeros-at_index : (n k : ℕ) → slice_index (unpacked_nibbles (replicate n 0)) k ≡ 0
unpacked_zeros-at_index n k = ap (λ cells. slice_index cells k) (unpacked_nibbles-of_zeros n) ∙ slice_index-zeros (2 * n) k

pub bank_of-blank_chips : (n chip_count src : ℕ) → chip_count ≤ n → bank_of (replicate n (record { main = replicate 32 0; status = replicate 8 0; port = 0 })) chip_count src ≡ record (blank_bank chip_count) { src = src }
bank_of-blank_chips n chip_count src l =
    let b : Chip = record { main = replicate 32 0; status = replicate 8 0; port = 0 } in
    let main = zero-flat_rows 4 64 main_cells_of absent_chip (take chip_count (replicate n b)) (λ i k. blank_chip-value (λ c. slice_index (main_cells_of c) k) 0 n chip_count i b l (unpacked_zeros-at_index 32 k) (unpacked_nibbles-of_empty_list k)) in
    let status = zero-flat_rows 4 16 status_cells_of absent_chip (take chip_count (replicate n b)) (λ i k. blank_chip-value (λ c. slice_index (status_cells_of c) k) 0 n chip_count i b l (unpacked_zeros-at_index 8 k) (unpacked_nibbles-of_empty_list k)) in
    let ports = zero-column 4 (λ (c : Chip). c.port) absent_chip (take chip_count (replicate n b)) (λ i. blank_chip-value (λ c. c.port) 0 n chip_count i b l refl refl) in
    rw (main, status, ports) refl
