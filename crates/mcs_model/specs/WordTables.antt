-- Lookup tables with a word and an entry in each row.
use Rattle.std.specs.Prelude.{Bool, ℕ, List, [], ◌∷◌, Option, Some, None, if◌then◌else◌}

-- the entry in the first row whose word satisfies `p`, or none if no word does
abbrev pub lookup_entry : {A : Type 0} → (List ℕ → Bool) → List (List ℕ × A) → Option A
lookup_entry p [] = None
lookup_entry p (row ∷ rows) = if p row.0 then Some row.1 else lookup_entry p rows
