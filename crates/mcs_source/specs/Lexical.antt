-- The tokens of a line of a source text. (Defined by Fethsaim, not by Intel.)
use Rattle.std.specs.Prelude.{ℕ, Bool, ◌||◌, List, [], ◌∷◌, ◌==◌, map, if◌then◌else◌}
use Rattle.std.specs.List.{before_first, flat_map}
use Rattle.std.specs.Char.{is_ascii_digit, is_ascii_uppercase, is_ascii_lowercase}
use Rattle.mcs_model.specs.TextLines.{is_blank, words_of}

-- A token of a source line. A word is a sequence of letters, digits and `_`. `Other` is any other
-- byte that is not a blank, for example a non-ASCII byte.
pub data Token : Type 0 where
  Word : List ℕ → Token
  Comma : Token
  Colon : Token
  Equals : Token
  Other : Token

-- true for a letter, a digit or `_`
abbrev pub is_word_byte : ℕ → Bool
is_word_byte b = ((is_ascii_digit b || is_ascii_uppercase b) || is_ascii_lowercase b) || b == 95

-- the token for a byte that is not part of a word
abbrev pub symbol : ℕ → Token
symbol b = if b == 44 then Comma else if b == 58 then Colon else if b == 61 then Equals else Other

-- a byte, with a space on each side if it is neither a word byte nor a blank
abbrev pub with_symbol_spaced : ℕ → List ℕ
with_symbol_spaced b = if is_word_byte b || is_blank b then b ∷ [] else 32 ∷ b ∷ 32 ∷ []

-- the token for a sequence of bytes without blanks: a word or a single symbol
abbrev pub token_of : List ℕ → Token
token_of [] = Other
token_of (b ∷ word) = if is_word_byte b then Word (b ∷ word) else symbol b

-- the tokens of a line, without its comment; a comment begins with `;` and ends at the end of the
-- line
unfoldable pub tokens : List ℕ → List Token
tokens line = map token_of (words_of (flat_map with_symbol_spaced (before_first (λ b. b == 59) line)))
