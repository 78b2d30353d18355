-- Conditions on a machine: comparisons of cell values, and mistakes. A list of conditions is met if
-- all of them are met at once. Some lists must never be met. Others begin or end a stopwatch, or
-- must not be met before all marks were seen.
use Rattle.std.specs.Prelude.{ℕ, ◌+◌, ◌%◌, List, [], ◌∷◌, ◌-◌, Bool, true, not, ◌&&◌, nat_le, if◌then◌else◌}
use Rattle.mcs_nibble.specs.Bits.{bit_of}
use Rattle.mcs_drive.specs.declared.marks.Mark.{Mark}
use Rattle.mcs_drive.specs.TrackedMachine.{Observer, TrackedMachine}
use Rattle.mcs_check.specs.declared.cells.CellList.TheVariants.{Counters}
use Rattle.mcs_check.specs.declared.conditions.Comparison.{Comparison}
use Rattle.mcs_check.specs.declared.conditions.Condition.{Condition}
use Rattle.mcs_check.specs.declared.conditions.Condition.TheVariants.{Compare, Mistaken}
use Rattle.mcs_check.specs.declared.conditions.Part.{Part}
use Rattle.mcs_check.specs.declared.conditions.Part.TheVariants.{Whole, Line}
use Rattle.mcs_check.specs.Cells.{value_at}
use Rattle.mcs_check.specs.Mistaken.{cycle_makes_mistake}

-- the part of a value that a comparison uses: the whole value, or one of its lower four bits. A bit
-- of a port latch is one line.
abbrev pub part_of : ℕ → Part → ℕ
part_of n Whole = n
part_of n (Line k) = bit_of (n % 16) (k % 4)

-- true if the compared part of the cell's value is in the range from low to high, bounds included
abbrev pub is_inside : TrackedMachine → Comparison → Bool
is_inside t c =
    nat_le c.low (part_of (value_at t c.cell) c.part)
    && nat_le (part_of (value_at t c.cell) c.part) c.high

-- true if a comparison is met: its value is in the range if `inside` is true, and outside the range
-- if `inside` is false
abbrev pub comparison_is_met : TrackedMachine → Comparison → Bool
comparison_is_met t c = if c.inside then is_inside t c else not (is_inside t c)

-- true if a condition is met
abbrev pub is_met : TrackedMachine → Condition → Bool
is_met t (Compare c) = comparison_is_met t c
is_met t (Mistaken kinds) = cycle_makes_mistake kinds t

-- true if all conditions in a list are met
abbrev pub are_met : TrackedMachine → List Condition → Bool
are_met t [] = true
are_met t (c ∷ cs) = is_met t c && are_met t cs

-- true if none of these lists of conditions is met
abbrev pub meets_none : List (List Condition) → TrackedMachine → Bool
meets_none [] t = true
meets_none (cs ∷ never_lists) t = not (are_met t cs) && meets_none never_lists t

-- An observer with these marks. Its stopwatch begins when a list of conditions in `begins` is met,
-- and ends when a list in `ends` is met. Its condition holds when a list in `opens` is met.
abbrev pub observer_of : List (List Condition) → List (List Condition) → List (List Condition) → List Mark → Observer
observer_of begins ends opens marks = record {
  begins = λ s. not (meets_none begins s);
  ends = λ s. not (meets_none ends s);
  opens = λ s. not (meets_none opens s);
  marks = marks;
}

-- a property of a run, given by lists of conditions and a list of marks. The lists in `never_lists`
-- must never be met. The lists in `begins` and `ends` begin and end a stopwatch. The lists in
-- `opens` must not be met before all marks were seen.
pub record PropertyConditions : Type 0 where
  pub never_lists : List (List Condition)
  pub begins : List (List Condition)
  pub ends : List (List Condition)
  pub opens : List (List Condition)
  pub marks : List Mark

-- the observer of a property's stopwatch and marks
abbrev pub observer_of_property : PropertyConditions → Observer
observer_of_property a = observer_of a.begins a.ends a.opens a.marks

-- the comparison of byte i of the stopwatch's cycles with a range. Byte 0 is the most significant.
abbrev pub elapsed_byte_comparison : ℕ → ℕ → ℕ → Bool → Comparison
elapsed_byte_comparison i low high inside =
    record { cell = record { list = Counters; index = 14 + i }; part = Whole; low = low; high = high; inside = inside }

-- the comparison that is met if the count of marks seen is less than n, for n above 0
abbrev pub fewer_marks_seen : ℕ → Comparison
fewer_marks_seen n =
    record { cell = record { list = Counters; index = 17 }; part = Whole; low = 0; high = n - 1; inside = true }
