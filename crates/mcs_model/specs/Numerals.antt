-- Numbers in command lines and source texts.
use Rattle.std.specs.Prelude.{ℕ, min, ◌&&◌, List, [], ◌∷◌, Option, Some, None, nat_lt, nat_le, ◌==◌, if◌then◌else◌}
use Rattle.std.specs.Option.{option_and_then}
use Rattle.std.specs.List.{list_all}
use Rattle.std.specs.Char.{digit_value}
use Rattle.std.specs.Str.Parse.{digits_value}
use Rattle.mcs_model.specs.declared.numeral.TheConstants.{NUMBER_CAP}

-- the value of a string of digits in a base, or none if the string is empty or contains a character
-- that is not a digit of the base
abbrev pub value_of_digits : ℕ → List ℕ → Option ℕ
value_of_digits base [] = None
value_of_digits base (d ∷ ds) =
    if list_all (λ c. nat_lt (digit_value c) base) (d ∷ ds)
    then Some (digits_value base (d ∷ ds))
    else None

-- The number that a word spells, or none. A number is decimal digits, or `0x` and hexadecimal
-- digits of either case. Leading zeros are allowed.
abbrev pub number_in_word : List ℕ → Option ℕ
number_in_word (z ∷ x ∷ ds) =
    if z == 48 && x == 120
    then value_of_digits 16 ds
    else value_of_digits 10 (z ∷ x ∷ ds)
number_in_word word = value_of_digits 10 word

-- the number, or none if it is above `most`
abbrev pub if_at_most : ℕ → ℕ → Option ℕ
if_at_most most n = if nat_le n most then Some n else None

-- the number that a word spells, or none if the word is not a number or the number is above `most`
abbrev pub number_up_to : ℕ → List ℕ → Option ℕ
number_up_to most word = option_and_then (if_at_most most) (number_in_word word)

-- The number, or 2^32 if the number is larger. Words can have any length, and 2^32 is outside every
-- accepted range.
abbrev pub capped_number : ℕ → ℕ
capped_number n = min n NUMBER_CAP
