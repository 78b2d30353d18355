-- The lines of a text, read byte by byte.
use Rattle.std.proofs.Common.{◌≡◌, ℕ, ◌<◌, Bool, true, false, cond, if◌then◌else◌, List, [], ◌∷◌, ◌++◌, length, refl, sym, ap, ◌∙◌, append_assoc, append-nil, arith}
use Rattle.std.specs.List.{onto_first, slice_split}
use Rattle.std.specs.Str.Lines.{strip_carriage_return}
use Rattle.mcs_model.specs.TextLines.{is_line_feed, last_line, lines, lines_in}
use Rattle.mcs_model.specs.Cutting.{HasNoSeparator}
use Rattle.mcs_model.proofs.Cutting.{prepend_to_first, prepend_to_first-nil, first_piece_of}

-- the lines of `line` followed by a text; `line` is the part of the first line that has already
-- been read
unfoldable pub lines_after : Bool → List ℕ → List ℕ → List (List ℕ)
lines_after complete line [] = last_line complete line
lines_after complete line (b ∷ text) =
    if is_line_feed b
    then strip_carriage_return line ∷ lines_after complete [] text
    else lines_after complete (line ++ b ∷ []) text

-- prepending `b` and then `line` to the first piece is the same as prepending `line` followed by
-- `b`
prepend_to_first-onto_first : (line : List ℕ) (b : ℕ) (ps : List (List ℕ)) (p : List ℕ) (rest : List (List ℕ)) → ps ≡ p ∷ rest → prepend_to_first line (onto_first b ps) ≡ prepend_to_first (line ++ b ∷ []) ps
prepend_to_first-onto_first line b [] p rest e = absurd (cc)
prepend_to_first-onto_first line b (q ∷ qs) p rest e = ap (λ (v : List ℕ). v ∷ qs) (sym (append_assoc line (b ∷ []) q))

-- if a piece is not the last piece, it is a line; the statement writes this piece as `line ++ []`
lines_in-cons : (complete : Bool) (line : List ℕ) (ps : List (List ℕ)) (p : List ℕ) (rest : List (List ℕ)) → ps ≡ p ∷ rest → lines_in complete ((line ++ []) ∷ ps) ≡ strip_carriage_return line ∷ lines_in complete ps
lines_in-cons complete line [] p rest e = absurd (cc)
lines_in-cons complete line (q ∷ qs) p rest e = ap (λ (v : List ℕ). strip_carriage_return v ∷ lines_in complete (q ∷ qs)) (append-nil line)

lines_in-as_lines_after : (complete : Bool) (line text : List ℕ) → lines_in complete (prepend_to_first line (slice_split is_line_feed text)) ≡ lines_after complete line text
unfolding lines_after
lines_in-as_lines_after complete line [] = ap (last_line complete) (append-nil line)
lines_in-as_lines_after complete line (b ∷ text) =
    let ps = slice_split is_line_feed text in
    let f = first_piece_of is_line_feed text in
    elim (is_line_feed b) as (λ v. lines_in complete (prepend_to_first line (cond v ([] ∷ ps) (onto_first b ps))) ≡ cond v (strip_carriage_return line ∷ lines_after complete [] text) (lines_after complete (line ++ b ∷ []) text)) [
      | true ↦ lines_in-cons complete line ps f.0 f.1 f.2
          ∙ ap (λ (v : List (List ℕ)). strip_carriage_return line ∷ lines_in complete v) (sym (prepend_to_first-nil ps f.0 f.1 f.2))
          ∙ ap (λ (v : List (List ℕ)). strip_carriage_return line ∷ v) (lines_in-as_lines_after complete [] text)
      | false ↦ ap (lines_in complete) (prepend_to_first-onto_first line b ps f.0 f.1 f.2) ∙ lines_in-as_lines_after complete (line ++ b ∷ []) text
    ]

pub lines-as_lines_after : (text : List ℕ) (complete : Bool) → lines text complete ≡ lines_after complete [] text
unfolding lines
lines-as_lines_after text complete =
    let f = first_piece_of is_line_feed text in
    ap (lines_in complete) (sym (prepend_to_first-nil (slice_split is_line_feed text) f.0 f.1 f.2)) ∙ lines_in-as_lines_after complete [] text

-- bytes without a line feed extend the line that is being read
pub lines_after-append : (complete : Bool) (line bytes more : List ℕ) → HasNoSeparator is_line_feed bytes → lines_after complete line (bytes ++ more) ≡ lines_after complete (line ++ bytes) more
unfolding lines_after
lines_after-append complete line [] more none = ap (λ (l : List ℕ). lines_after complete l more) (sym (append-nil line))
lines_after-append complete line (b ∷ bytes) more none =
    rw none.0 (lines_after-append complete (line ++ b ∷ []) bytes more none.1 ∙ ap (λ (l : List ℕ). lines_after complete l more) (append_assoc line (b ∷ []) bytes))

-- bytes without a line feed, followed by a line feed, are the first line of the text
pub lines-of_line_and_rest : (line bytes : List ℕ) (complete : Bool) → HasNoSeparator is_line_feed line → lines (line ++ 10 ∷ bytes) complete ≡ strip_carriage_return line ∷ lines bytes complete
unfolding lines_after
lines-of_line_and_rest line bytes complete none =
    lines-as_lines_after (line ++ 10 ∷ bytes) complete ∙ lines_after-append complete [] line (10 ∷ bytes) none
    ∙ ap (λ (ls : List (List ℕ)). strip_carriage_return line ∷ ls) (sym (lines-as_lines_after bytes complete))

-- if a text contains no line feed, all of it is the last line
pub lines-without_line_feed : (line : List ℕ) (complete : Bool) → HasNoSeparator is_line_feed line → lines line complete ≡ last_line complete line
unfolding lines_after
lines-without_line_feed line complete none =
    ap (λ (l : List ℕ). lines l complete) (sym (append-nil line)) ∙ lines-as_lines_after (line ++ []) complete ∙ lines_after-append complete [] line [] none

-- if the last line is not empty, `last_line` gives a list with only this line
pub last_line-nonempty : (line : List ℕ) → 0 < length line → last_line true line ≡ strip_carriage_return line ∷ []
last_line-nonempty [] some = absurd (omega (arith, some))
last_line-nonempty (b ∷ line) some = refl
