-- Lemmas about the first line of a text and the lines after it.
use Rattle.std.proofs.Common.{◌≡◌, ℕ, suc, ◌+◌, ◌-◌, ◌<◌, ◌≤◌, Bool, true, false, cond, not, eqb, List, [], ◌∷◌, ◌++◌, length, take, drop, refl, sym, ap, ◌∙◌, append_assoc, arith}
use Rattle.std.specs.List.{position_or_len}
use Rattle.std.proofs.lemmas.List.{append-nil, length-take, length-drop, take_all}
use Rattle.std.specs.Str.Lines.{strip_carriage_return}
use Rattle.mcs_model.specs.TextLines.{is_line_feed, last_line, lines, lines_of}
use Rattle.mcs_model.proofs.LineLemmas.{lines-as_lines_after, lines_after, last_line-nonempty}

-- the lines of a text, given its first line and the bytes that start at the first line feed
abbrev pub lines_from_first : List ℕ → List ℕ → List (List ℕ)
lines_from_first line [] = last_line true line
lines_from_first line (b ∷ bytes) = strip_carriage_return line ∷ lines_of bytes

lines_after_partial_line : (line bytes : List ℕ) → lines_after true line bytes ≡ lines_from_first (line ++ take (position_or_len is_line_feed bytes) bytes) (drop (position_or_len is_line_feed bytes) bytes)
unfolding lines_after
lines_after_partial_line line [] = ap (last_line true) (sym (append-nil line))
lines_after_partial_line line (b ∷ bytes) =
    let n : ℕ = position_or_len is_line_feed bytes in
    let one_plus : 1 + n ≡ suc n = omega arith in
    let Q : Bool → Type 0 = λ t. cond t (strip_carriage_return line ∷ lines_after true [] bytes) (lines_after true (line ++ b ∷ []) bytes) ≡ lines_from_first (line ++ take (cond (not t) (1 + n) 0) (b ∷ bytes)) (drop (cond (not t) (1 + n) 0) (b ∷ bytes)) in
    elim (eqb b 10) as Q [
      | true ↦ ap (λ (l : List ℕ). strip_carriage_return l ∷ lines_after true [] bytes) (sym (append-nil line)) ∙ ap (λ (ls : List (List ℕ)). strip_carriage_return (line ++ []) ∷ ls) (sym (lines-as_lines_after bytes true))
      | false ↦ lines_after_partial_line (line ++ b ∷ []) bytes ∙ rw (one_plus, append_assoc line (b ∷ []) (take n bytes)) refl
    ]

pub lines_of_text_from_first_line : (text : List ℕ) → lines_of text ≡ lines_from_first (take (position_or_len is_line_feed text) text) (drop (position_or_len is_line_feed text) text)
lines_of_text_from_first_line text = lines-as_lines_after text true ∙ lines_after_partial_line [] text

-- If no line feed follows the first line, this line is the only one.
pub lines_of_only_line : (text line rest cut : List ℕ) (n : ℕ) → n ≡ position_or_len is_line_feed text → n ≤ length text → 0 < length text → line ≡ take n text → rest ≡ drop n text → length rest ≡ 0 → cut ≡ strip_carriage_return line
    → (lines_of text ≡ cut ∷ lines_of rest) × (length rest < length text)
unfolding lines
lines_of_only_line text line [] cut n len within some front back none is =
    let short : 0 ≡ length text - n = ap length back ∙ length-drop n text in
    let not_empty : 0 < length line = omega (arith, ap length front ∙ length-take n text, short, within, some) in
    (lines_of_text_from_first_line text ∙ rw (← len, ← back, ← front) (last_line-nonempty line not_empty ∙ rw is refl), omega (arith, some))
lines_of_only_line text line (b ∷ rest) cut n len within some front back none is = absurd (omega (arith, none))

-- If a line feed follows the first line, the other lines are the lines of the bytes after the line
-- feed.
pub lines_of_first_line_and_others : (text line rest cut : List ℕ) (n : ℕ) → n ≡ position_or_len is_line_feed text → n ≤ length text → line ≡ take n text → rest ≡ drop n text → 1 ≤ length rest → cut ≡ strip_carriage_return line
    → (lines_of text ≡ cut ∷ lines_of (take (length rest - 1) (drop 1 rest))) × (length (take (length rest - 1) (drop 1 rest)) < length text)
lines_of_first_line_and_others text line [] cut n len within front back some is = absurd (omega (arith, some))
lines_of_first_line_and_others text line (b ∷ rest) cut n len within front back some is =
    let all : take (length (b ∷ rest) - 1) rest ≡ rest = take_all (length (b ∷ rest) - 1) rest (omega arith) in
    let long : length (b ∷ rest) ≡ length text - n = ap length back ∙ length-drop n text in
    (lines_of_text_from_first_line text ∙ rw (← len, ← back, ← front, is, all) refl, rw all (omega (arith, long)))

pub no_lines_of_empty_text : (text : List ℕ) → length text ≡ 0 → lines_of text ≡ []
unfolding lines
no_lines_of_empty_text [] e = refl
no_lines_of_empty_text (b ∷ text) e = absurd (omega (arith, e))
