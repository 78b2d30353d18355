-- Lemmas about the text of a RAM bank, chip by chip, and the number of chips in a bank.
use Rattle.std.proofs.Common.{◌≡◌, ℕ, zero, suc, ◌≤◌, false, List, [], ◌∷◌, ◌++◌, codes, None, map, get_or, ap, sym, ◌∙◌, append_assoc, append-nil, arith, nat_lt}
use Rattle.std.proofs.lemmas.Bool.Decides.{nat_tests}
use Rattle.std.proofs.lemmas.Grind.{flat_map-append}
use Rattle.std.proofs.lemmas.List.Folds.{flat_map-map}
use Rattle.std.specs.List.{flat_map, join_with_byte, list_any, range_with_len}
use Rattle.std.proofs.lemmas.Bool.{or_parts}
use Rattle.mcs_model.specs.declared.board.BoardParts.{BoardParts}
use Rattle.mcs_model.specs.Boards.{board_fault_of}
use Rattle.mcs_model.specs.Bus.{BusState, chips_of}
use Rattle.mcs_model.specs.QueryText.{chip_lines, digit_text, ram_lines, register_line}
use Rattle.mcs_answers.specs.PortPieces.{port_line}
use Rattle.mcs_model.specs.TextLines.{as_line}
use Rattle.mcs_wiring.proofs.PartTexts.{text_of-flat_map}
use Rattle.mcs_wiring.proofs.QueryLines.{joined_lines_equal_ended_lines}
use Rattle.mcs_model.proofs.ValidBoardLemmas.{sound}

-- The lines of a chip are the lines of its registers, then the line of its port.
pub chip_text_from_parts : (s : BusState) (bank chip : ℕ) (a b c : List ℕ)
    → b ≡ a ++ flat_map (λ r. as_line (register_line s bank chip r)) (range_with_len 0 4)
    → c ≡ b ++ as_line (port_line s bank chip)
    → c ≡ a ++ flat_map as_line (chip_lines s bank chip)
chip_text_from_parts s bank chip a b c registers port =
    let lines = flat_map (λ r. as_line (register_line s bank chip r)) (range_with_len 0 4) in
    let last = as_line (port_line s bank chip) in
    let written : flat_map as_line (chip_lines s bank chip) ≡ lines ++ last =
    flat_map-append as_line (map (register_line s bank chip) (range_with_len 0 4)) (port_line s bank chip ∷ [])
    ∙ ap (λ v. v ++ (last ++ [])) (flat_map-map as_line (register_line s bank chip) (range_with_len 0 4))
    ∙ ap (λ v. lines ++ v) (append-nil last) in
    port
    ∙ ap (λ v. v ++ last) registers
    ∙ append_assoc a lines last
    ∙ ap (λ v. a ++ v) (sym written)

-- The lines of a bank are a line with the number of its chips, then the lines of each chip.
pub ram_text_from_parts : (s : BusState) (bank : ℕ) (a b : List ℕ)
    → a ≡ as_line (codes "ram " ++ digit_text bank ++ codes " chips " ++ digit_text (chips_of s bank))
    → b ≡ a ++ flat_map (λ chip. flat_map as_line (chip_lines s bank chip)) (range_with_len 0 (chips_of s bank))
    → b ≡ join_with_byte 10 (ram_lines s bank) ++ 10 ∷ []
ram_text_from_parts s bank a b head chips =
    let first = codes "ram " ++ digit_text bank ++ codes " chips " ++ digit_text (chips_of s bank) in
    let others = flat_map (chip_lines s bank) (range_with_len 0 (chips_of s bank)) in
    chips
    ∙ ap (λ v. v ++ flat_map (λ chip. flat_map as_line (chip_lines s bank chip)) (range_with_len 0 (chips_of s bank))) head
    ∙ ap (λ v. as_line first ++ v) (sym (text_of-flat_map (chip_lines s bank) (range_with_len 0 (chips_of s bank))))
    ∙ sym (joined_lines_equal_ended_lines first others)

-- If no number in a list is above 4, entry `i` is at most 4.
entry_at_most_4_if_none_above : (xs : List ℕ) (i : ℕ) → list_any (λ n. nat_lt 4 n) xs ≡ false → get_or xs i 0 ≤ 4
entry_at_most_4_if_none_above [] i e = omega arith
entry_at_most_4_if_none_above (x ∷ xs) zero e = let small : nat_lt 4 x ≡ false = (or_parts (nat_lt 4 x) (list_any (λ n. nat_lt 4 n) xs) e).0 in grind (arith, nat_tests)
entry_at_most_4_if_none_above (x ∷ xs) (suc i) e = entry_at_most_4_if_none_above xs i (or_parts (nat_lt 4 x) (list_any (λ n. nat_lt 4 n) xs) e).1

-- A bank of a valid board has at most four chips.
pub bank_has_at_most_four_chips : (b : BoardParts) (bank : ℕ) → board_fault_of b ≡ None → get_or b.banks bank 0 ≤ 4
bank_has_at_most_four_chips b bank e = entry_at_most_4_if_none_above b.banks bank (sound b e).values.banks
