-- The format of a board text: its sections and the keys of their tables. (Defined by Fethsaim, not
-- by Intel.)
use Rattle.std.specs.Prelude.{ℕ, Bool, List, [], ◌∷◌, codes}
use Rattle.std.specs.List.{list_any}
use Rattle.std.specs.Str.{bytes_eq}
use Rattle.mcs_wiring.specs.declared.sections.Section.{Section}
use Rattle.mcs_wiring.specs.declared.sections.Section.TheVariants.{Rom, Ram, Chain, Keys, Lamp}

-- the sections, in the order in which `board_text` lists them
abbrev pub sections : List Section
sections = Rom ∷ Ram ∷ Chain ∷ Keys ∷ Lamp ∷ []

-- the top-level key of a section
abbrev pub section_key : Section → List ℕ
section_key Rom = codes "rom"
section_key Ram = codes "ram"
section_key Chain = codes "chain"
section_key Keys = codes "keys"
section_key Lamp = codes "lamp"

-- the keys that a table of the section must have; no other key is allowed
abbrev pub table_keys : Section → List (List ℕ)
table_keys Rom = codes "chip" ∷ codes "port" ∷ []
table_keys Ram = codes "bank" ∷ codes "chips" ∷ []
table_keys Chain = codes "clock" ∷ codes "data" ∷ codes "chips" ∷ []
table_keys Keys = codes "chain" ∷ codes "first" ∷ codes "rows" ∷ codes "columns" ∷ []
table_keys Lamp = codes "line" ∷ []

-- true if a key is the top-level key of a section
abbrev pub is_board_key : List ℕ → Bool
is_board_key key = list_any (λ s. bytes_eq key (section_key s)) sections

-- true if a table of the section must have the key
abbrev pub is_table_key : Section → List ℕ → Bool
is_table_key s key = list_any (bytes_eq key) (table_keys s)
