-- The statements of this crate's theorems about the opcode table and about consecutive runs.
use Rattle.std.specs.Prelude.{◌≡◌, ℕ, ◌+◌, ◌/◌, ◌%◌, Bool, List, [], ◌∷◌, is_none, filter, count_by, nat_le}
use Rattle.std.specs.List.{range_with_len, list_all}
use Rattle.mcs_model.specs.Running.{Machine, StopConditions, after_run}
use Rattle.mcs_model.specs.Table.{Row, covers, row_of}

-- the opcodes that are in no row of the table
abbrev pub outside_codes : List ℕ
outside_codes =
    0x01 ∷ 0x02 ∷ 0x03 ∷ 0x04 ∷ 0x05 ∷ 0x06 ∷ 0x07 ∷ 0x08 ∷ 0x09 ∷ 0x0A ∷ 0x0B ∷ 0x0C ∷ 0x0D ∷ 0x0E ∷ 0x0F
    ∷ 0xE3 ∷ 0xFE ∷ 0xFF ∷ []

-- holds if `codes` are exactly the opcodes that are in no row of the table, in ascending order
abbrev pub AreOutsideTable : List ℕ → Type 0
AreOutsideTable codes = filter (λ code. is_none (row_of code)) (range_with_len 0 256) ≡ codes

-- true if no opcode is in more than one row of a table
abbrev pub is_unambiguous : List Row → Bool
is_unambiguous table =
    list_all (λ code. nat_le (count_by (covers (code / 16) (code % 16)) table) 1) (range_with_len 0 256)

-- no breakpoints and no watches: a run stops only at its end, or at an opcode outside the table
abbrev pub no_stops : StopConditions
no_stops = record { breaks = []; watches = [] }

-- holds if, without breakpoints and watches, two consecutive runs reach the same state as one run
-- of all their cycles
abbrev pub RunsCompose : Type 0
RunsCompose =
    (s : Machine) (a b : ℕ) →
    after_run no_stops b (after_run no_stops a s) ≡ after_run no_stops (a + b) s
