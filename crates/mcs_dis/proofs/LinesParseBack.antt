-- If a text consists of lines, each followed by LF, and no line contains an LF or ends in CR,
-- splitting the text gives the same lines.
use Rattle.std.proofs.Common.{◌≡◌, ℕ, ◌-◌, Bool, true, false, eqb, length, slice_index, List, [], ◌∷◌, refl, ap, ◌∙◌, append_assoc}
use Rattle.std.specs.List.{flat_map, AllByRecursion}
use Rattle.std.specs.Str.Lines.{strip_carriage_return}
use Rattle.mcs_model.specs.Cutting.{HasNoSeparator}
use Rattle.mcs_model.specs.TextLines.{as_line, is_line_feed, lines, lines_of}
use Rattle.mcs_model.proofs.LineLemmas.{lines-of_line_and_rest}

abbrev pub ends_in_cr : List ℕ → Bool
ends_in_cr line = eqb (slice_index line (length line - 1)) 13

-- if the lines `ls` parse back and the line `l` does not end in CR, the line `l` followed by `ls`
-- also parses back
lines_parse_back_with_line_in_front : (l : List ℕ) (ls : List (List ℕ)) → ends_in_cr l ≡ false → lines_of (flat_map as_line ls) ≡ ls → strip_carriage_return l ∷ lines_of (flat_map as_line ls) ≡ l ∷ ls
lines_parse_back_with_line_in_front l ls e others_parse_back = rw (e, others_parse_back) refl

abbrev pub IsLine : List ℕ → Type 0
IsLine l = HasNoSeparator is_line_feed l × (ends_in_cr l ≡ false)

pub written_lines_parse_back : (ls : List (List ℕ)) → AllByRecursion IsLine ls → lines_of (flat_map as_line ls) ≡ ls
unfolding lines
written_lines_parse_back [] all = refl
written_lines_parse_back (l ∷ ls) all =
    ap (λ (t : List ℕ). lines_of t) (append_assoc l (10 ∷ []) (flat_map as_line ls)) ∙ lines-of_line_and_rest l (flat_map as_line ls) true all.0.0 ∙ lines_parse_back_with_line_in_front l ls all.0.1 (written_lines_parse_back ls all.1)
