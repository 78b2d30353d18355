-- The answer to the query `board` contains the text of the board.
use Rattle.std.proofs.Common.{◌≡◌, ℕ, List, [], ◌∷◌, ◌++◌, codes, sym, ap, ◌∙◌, append_assoc, append-nil}
use Rattle.std.specs.List.{flat_map, join_with_byte}
use Rattle.mcs_model.specs.declared.board.BoardParts.{BoardParts}
use Rattle.mcs_model.specs.TextLines.{as_line}
use Rattle.mcs_wiring.specs.BoardText.{board_lines, board_text, query_text}

-- lines joined by LF, with one LF added at the end, equal the same lines, each followed by LF
pub joined_lines_equal_ended_lines : (x : List ℕ) (xs : List (List ℕ)) → join_with_byte 10 (x ∷ xs) ++ 10 ∷ [] ≡ flat_map as_line (x ∷ xs)
joined_lines_equal_ended_lines x [] = sym (append-nil (as_line x))
joined_lines_equal_ended_lines x (y ∷ ys) =
    let later_lines = flat_map as_line (y ∷ ys) in
    append_assoc x (10 ∷ join_with_byte 10 (y ∷ ys)) (10 ∷ [])
    ∙ (ap (λ t. x ++ 10 ∷ t) (joined_lines_equal_ended_lines y ys) ∙ sym (append_assoc x (10 ∷ []) later_lines))

pub query_text_equals_board_text : (b : BoardParts) → query_text b ++ 10 ∷ [] ≡ as_line (codes "board") ++ board_text b
query_text_equals_board_text b = joined_lines_equal_ended_lines (codes "board") (board_lines b)
