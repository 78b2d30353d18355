-- The bytes that a line can have, and the parts of a word. (Defined by Fethsaim, not by Intel.)
use Rattle.std.specs.Prelude.{◌==◌, ◌&&◌, ◌||◌, Bool, ℕ, List, nat_lt}
use Rattle.std.specs.List.{slice_split}

-- true if a byte is a tab or a printable ASCII character
abbrev pub is_allowed_byte : ℕ → Bool
is_allowed_byte b = (b == 9) || (nat_lt 31 b && nat_lt b 127)

abbrev pub is_dot : ℕ → Bool
is_dot b = b == 46

-- the parts of a word: the bytes before, between and after its dots
unfoldable pub parts_of_word : List ℕ → List (List ℕ)
parts_of_word word = slice_split is_dot word
