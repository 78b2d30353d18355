-- The clock and data lines of chains are output lines (`BoardLemmas` of mcs_board proves the same).
use Rattle.std.proofs.Common.{◌≡◌, ℕ, ◌<◌, None, true, false, not, ◌||◌}
use Rattle.std.proofs.lemmas.Bool.{or_parts, not-false}
use Rattle.mcs_model.specs.declared.board.BoardParts.{BoardParts}
use Rattle.mcs_model.specs.declared.board.ChainPart.{ChainPart}
use Rattle.mcs_model.specs.declared.board.Line.{Line}
use Rattle.mcs_model.specs.Boards.{board_fault_of, any_chain_line, any_column, any_lamp, is_output_line, is_input_line, chain_part, chain_count, no_chain}
use Rattle.mcs_model.proofs.ListLemmas.{test_false-if_list_any_false}
use Rattle.mcs_model.proofs.ValidBoardLemmas.{sound}

clock-and-data-are-output-lines : (b : BoardParts) (i : ℕ) → board_fault_of b ≡ None → i < chain_count b → (not (is_output_line b (chain_part b i).clock) || not (is_output_line b (chain_part b i).data_in)) ≡ false
clock-and-data-are-output-lines b i v l =
    let p = λ (x : Line). not (is_output_line b x) in
    let q = λ (x : Line). not (is_input_line b x) in
    let first = or_parts (any_chain_line p b || any_column q b) (any_lamp (is_input_line b) b) (sound b v).directions in
    let chains = (or_parts (any_chain_line p b) (any_column q b) first.0).0 in
    test_false-if_list_any_false (λ (c : ChainPart). not (is_output_line b c.clock) || not (is_output_line b c.data_in)) b.chains.items i no_chain chains l

pub clock_line-is_output : (b : BoardParts) (i : ℕ) → board_fault_of b ≡ None → i < chain_count b → is_output_line b (chain_part b i).clock ≡ true
clock_line-is_output b i v l = not-false _ (or_parts (not (is_output_line b (chain_part b i).clock)) (not (is_output_line b (chain_part b i).data_in)) (clock-and-data-are-output-lines b i v l)).0

pub data_line-is_output : (b : BoardParts) (i : ℕ) → board_fault_of b ≡ None → i < chain_count b → is_output_line b (chain_part b i).data_in ≡ true
data_line-is_output b i v l = not-false _ (or_parts (not (is_output_line b (chain_part b i).clock)) (not (is_output_line b (chain_part b i).data_in)) (clock-and-data-are-output-lines b i v l)).1
