-- Lemmas about a valid board: its output lines and lamp lines exist. The clock and data lines of
-- its chains are output lines. Its key rows fit in their chain.
use Rattle.std.proofs.Common.{◌≡◌, ℕ, ◌+◌, ◌<◌, ◌≤◌, inl, inr, Option, Some, None, Bool, true, false, length, sym, ap, ◌∙◌, arith, nat_lt, nat_le, not, ◌||◌, slice_get}
use Rattle.std.proofs.lemmas.Option.{get_or_from_slice_get, slice_get_past}
use Rattle.std.proofs.lemmas.Bool.{cases_lt, or_parts, and_parts, not-false}
use Rattle.std.proofs.lemmas.Bool.Decides.{nat_tests}
use Rattle.mcs_model.specs.declared.board.BoardParts.{BoardParts}
use Rattle.mcs_model.specs.declared.board.ChainPart.{ChainPart}
use Rattle.mcs_model.specs.declared.board.KeyMatrix.{KeyMatrix}
use Rattle.mcs_model.specs.declared.board.Line.{Line}
use Rattle.mcs_model.specs.declared.board.Line.TheVariants.{Rom, Ram, Chain}
use Rattle.mcs_model.specs.Boards.{board_fault_of, any_chain_line, any_column, any_lamp, any_line, is_on_board, is_output_line, is_input_line, is_rom_input_line, chain_part, chain_count, chain_bits, no_chain}
use Rattle.mcs_model.proofs.ListLemmas.{test_false-if_list_any_false}
use Rattle.mcs_model.proofs.ValidBoardLemmas.{sound}

-- If no line of the board has a property, then no line of its chains and none of its lamps has it.
no_chain_line_or_lamp-if_no_line : (p : Line → Bool) (b : BoardParts) → any_line p b ≡ false → (any_chain_line p b ≡ false) × (any_lamp p b ≡ false)
no_chain_line_or_lamp-if_no_line p b h =
    let first = or_parts (any_chain_line p b || any_column p b) (any_lamp p b) h in
    ((or_parts (any_chain_line p b) (any_column p b) first.0).0, first.1)

-- On a valid board, the chain that drives the key rows exists.
pub key_chain-exists : (b : BoardParts) (m : KeyMatrix) → board_fault_of b ≡ None → b.keys ≡ Some m → m.chain < chain_count b
key_chain-exists b m v is =
    let lacks = (sound b v).rows in
    let here = sym (ap (λ (o : Option KeyMatrix). elim o [ Some k ↦ nat_le (chain_count b) k.chain || nat_lt (chain_bits b k.chain) (k.first + k.rows) | None ↦ false ]) is) ∙ lacks in
    let first = (or_parts (nat_le (chain_count b) m.chain) (nat_lt (chain_bits b m.chain) (m.first + m.rows)) here).0 in
    grind (arith, nat_tests, first)

-- On a valid board, the chain that drives the key rows has a bit for each row.
pub key_rows-fit_in_chain : (b : BoardParts) (m : KeyMatrix) → board_fault_of b ≡ None → b.keys ≡ Some m → m.first + m.rows ≤ chain_bits b m.chain
key_rows-fit_in_chain b m v is =
    let lacks = (sound b v).rows in
    let here = sym (ap (λ (o : Option KeyMatrix). elim o [ Some k ↦ nat_le (chain_count b) k.chain || nat_lt (chain_bits b k.chain) (k.first + k.rows) | None ↦ false ]) is) ∙ lacks in
    let second = (or_parts (nat_le (chain_count b) m.chain) (nat_lt (chain_bits b m.chain) (m.first + m.rows)) here).1 in
    grind (arith, nat_tests, second)

-- On a valid board, the clock line and the data line of each chain are output lines.
chain_lines-are_outputs : (b : BoardParts) (i : ℕ) → board_fault_of b ≡ None → i < chain_count b → (not (is_output_line b (chain_part b i).clock) || not (is_output_line b (chain_part b i).data_in)) ≡ false
chain_lines-are_outputs b i v l =
    let p = λ (line : Line). not (is_output_line b line) in
    let first = (or_parts (any_chain_line p b || any_column (λ line. not (is_input_line b line)) b) (any_lamp (is_input_line b) b) (sound b v).directions).0 in
    let chains = (or_parts (any_chain_line p b) (any_column (λ line. not (is_input_line b line)) b) first).0 in
    test_false-if_list_any_false (λ (c : ChainPart). not (is_output_line b c.clock) || not (is_output_line b c.data_in)) b.chains.items i no_chain chains l

pub clock_line-is_output : (b : BoardParts) (i : ℕ) → board_fault_of b ≡ None → i < chain_count b → is_output_line b (chain_part b i).clock ≡ true
clock_line-is_output b i v l = not-false _ (or_parts (not (is_output_line b (chain_part b i).clock)) (not (is_output_line b (chain_part b i).data_in)) (chain_lines-are_outputs b i v l)).0

pub data_line-is_output : (b : BoardParts) (i : ℕ) → board_fault_of b ≡ None → i < chain_count b → is_output_line b (chain_part b i).data_in ≡ true
data_line-is_output b i v l = not-false _ (or_parts (not (is_output_line b (chain_part b i).clock)) (not (is_output_line b (chain_part b i).data_in)) (chain_lines-are_outputs b i v l)).1

pub output_line-exists : (b : BoardParts) (line : Line) → is_output_line b line ≡ true → is_on_board b line ≡ true
output_line-exists b (Rom chip k) h = (and_parts (is_on_board b (Rom chip k)) (not (is_rom_input_line b chip k)) h).0
output_line-exists b (Ram bank chip k) h = h
output_line-exists b (Chain n i) h = absurd (cc)

pub lamp_line-exists : (b : BoardParts) (i : ℕ) (line : Line) → board_fault_of b ≡ None → slice_get b.lamps.items i ≡ Some line → is_on_board b line ≡ true
lamp_line-exists b i line v is =
    let p = λ (x : Line). not (is_on_board b x) in
    let lines = (sound b v).lines in
    elim (cases_lt i (length b.lamps.items)) [
      | inl l ↦ ap (is_on_board b) (sym (get_or_from_slice_get b.lamps.items i line line is)) ∙ not-false _ (test_false-if_list_any_false p b.lamps.items i line (no_chain_line_or_lamp-if_no_line p b lines).1 l)
      | inr beyond ↦ absurd (let e = slice_get_past b.lamps.items i beyond in cc)
    ]
