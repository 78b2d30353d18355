-- Conditions on the beginning and the end of a word, or of another piece of a line. Only contracts
-- of private functions use these definitions.
use Rattle.std.specs.Prelude.{◌≡◌, Bool, true, false, ℕ, List, [], ◌∷◌}
use Rattle.mcs_model.specs.TextLines.{is_blank}

-- holds if the list contains no separator; `is_separator` is true for separators
abbrev pub HasNoSeparator : (ℕ → Bool) → List ℕ → Type 0
HasNoSeparator is_separator [] = Unit {0}
HasNoSeparator is_separator (b ∷ bs) = (is_separator b ≡ false) × HasNoSeparator is_separator bs

-- holds if the list is empty or begins with a separator; `is_separator` is true for separators
abbrev pub IsAtPieceEnd : (ℕ → Bool) → List ℕ → Type 0
IsAtPieceEnd is_separator [] = Unit {0}
IsAtPieceEnd is_separator (b ∷ bs) = is_separator b ≡ true

-- holds if `piece` contains no separator, and `rest`, the bytes after it, is empty or begins with a
-- separator
abbrev pub IsCompletePiece : (ℕ → Bool) → List ℕ → List ℕ → Type 0
IsCompletePiece is_separator piece rest = HasNoSeparator is_separator piece × IsAtPieceEnd is_separator rest

-- holds if the line does not begin with a blank
abbrev pub StartsWithoutBlank : List ℕ → Type 0
StartsWithoutBlank [] = Unit {0}
StartsWithoutBlank (b ∷ bs) = is_blank b ≡ false
