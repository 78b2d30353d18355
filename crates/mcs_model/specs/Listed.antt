-- Strictly ascending lists of numbers: the breakpoints and the watches of a bench.
use Rattle.std.specs.Prelude.{ℕ, Bool, not, ◌==◌, nat_lt, List, [], ◌∷◌, if◌then◌else◌}
use Rattle.std.specs.List.{list_any, filter}

-- true if the number is in the list
abbrev pub is_listed : List ℕ → ℕ → Bool
is_listed numbers at = list_any (λ a. a == at) numbers

-- the list with a number inserted before the first greater number, or at the end if no number is
-- greater
abbrev pub insert_in_order : List ℕ → ℕ → List ℕ
insert_in_order [] at = at ∷ []
insert_in_order (a ∷ numbers) at =
    if nat_lt at a
    then at ∷ a ∷ numbers
    else a ∷ insert_in_order numbers at

-- the list with a number added; unchanged if the number is already in the list
abbrev pub with_listed : List ℕ → ℕ → List ℕ
with_listed numbers at =
    if is_listed numbers at
    then numbers
    else insert_in_order numbers at

-- the list with a number removed; unchanged if the number is not in the list
abbrev pub without_listed : List ℕ → ℕ → List ℕ
without_listed numbers at = filter (λ a. not (a == at)) numbers
