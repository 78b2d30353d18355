-- Texts of items that are followed by commas. Only contracts of private functions cite this module.
use Rattle.std.specs.Prelude.{ℕ, List, ◌++◌, codes}
use Rattle.std.specs.List.{flat_map}

-- an item followed by a comma
abbrev pub with_comma : List ℕ → List ℕ
with_comma item = item ++ codes ","

-- items, each followed by a comma
abbrev pub with_commas : List (List ℕ) → List ℕ
with_commas items = flat_map with_comma items
