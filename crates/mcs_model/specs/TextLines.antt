-- The lines of a text, and the words of a line, in source texts and in the shell's input.
use Rattle.std.specs.Prelude.{ℕ, ◌==◌, ◌||◌, Bool, true, false, List, [], ◌∷◌, ◌++◌, filter, length, nat_lt}
use Rattle.std.specs.List.{flat_map, slice_split}
use Rattle.std.specs.Str.Lines.{strip_carriage_return}

-- the byte that ends a line
abbrev pub line_feed : ℕ
line_feed = 10

abbrev pub is_line_feed : ℕ → Bool
is_line_feed b = b == line_feed

-- the bytes, followed by a line feed
abbrev pub as_line : List ℕ → List ℕ
as_line bytes = bytes ++ line_feed ∷ []

-- lines as a text: each line is followed by a line feed
abbrev pub text_of : List (List ℕ) → List ℕ
text_of lines = flat_map as_line lines

-- A list with the line after the last line feed, without its final CR. The list is empty if that
-- line is empty, or if the text was cut off (the Bool is false).
abbrev pub last_line : Bool → List ℕ → List (List ℕ)
last_line false line = []
last_line true [] = []
last_line true (b ∷ line) = strip_carriage_return (b ∷ line) ∷ []

-- the lines of a text that has been split at its line feeds; `complete` is false if the text was
-- cut off
abbrev pub lines_in : Bool → List (List ℕ) → List (List ℕ)
lines_in complete [] = []
lines_in complete (last ∷ []) = last_line complete last
lines_in complete (line ∷ next ∷ pieces) =
    strip_carriage_return line ∷ lines_in complete (next ∷ pieces)

-- The lines of a text, each without its line feed and without one final CR. `complete` is false if
-- the text was cut off.
unfoldable pub lines : List ℕ → Bool → List (List ℕ)
lines text complete = lines_in complete (slice_split is_line_feed text)

-- the lines of a complete text
abbrev pub lines_of : List ℕ → List (List ℕ)
lines_of text = lines text true

-- true if a byte is a space or a tab
abbrev pub is_blank : ℕ → Bool
is_blank b = b == 32 || b == 9

-- the words of a line: the nonempty parts between spaces and tabs
unfoldable pub words_of : List ℕ → List (List ℕ)
words_of line = filter (λ w. nat_lt 0 (length w)) (slice_split is_blank line)
