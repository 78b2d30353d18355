-- The search by levels: a search through inputs whose levels change at moments that are at least
-- `wait` cycles apart. No key stays down for more than `held` cycles, if `held` is not 0. A step of
-- the search runs from one read of an input to the next, so only the levels at its beginning
-- matter. If two steps begin at different levels, the search makes the change between them as early
-- as possible. (Defined by Fethsaim, not by Intel.)
use Rattle.std.specs.Prelude.{◌≡◌, ◌<◌, ◌+◌, ◌-◌, ◌*◌, ◌==◌, ◌||◌, ◌&&◌, ℕ, suc, min, List, Bool, true, false, Some, None, drop, length, nat_le, nat_lt, slice_get, slice_index, take, if◌then◌else◌}
use Rattle.std.specs.List.{Contains, sum}
use Rattle.std.specs.Str.{bytes_eq}
use Rattle.mcs_drive.specs.DrivenRuns.{FitsBoard, Levels}
use Rattle.mcs_drive.specs.TrackedMachine.{TrackedMachine}
use Rattle.mcs_drive.specs.RunsBetweenReads.{LeadsTo}
use Rattle.mcs_search.specs.Rules.{Rules}
use Rattle.mcs_check.specs.declared.spacing.Spacing.{Spacing}
use Rattle.mcs_check.specs.declared.spacing.TheConstants.{NO_LEVELS}
use Rattle.mcs_check.specs.Conditions.{observer_of_property}
use Rattle.mcs_check.specs.StateVectors.{Setting, IsVectorOf, property_of}
use Rattle.mcs_check.specs.SearchStep.{IsState}

-- ---- the levels at the beginnings of steps

-- true if a key is down at these levels
abbrev pub has_key_down : Levels → Bool
has_key_down l = nat_le 1 (sum l.keys)

-- True if the limit `wait` allows the next step to begin at the levels with index `d`. This is so
-- for the first step, if the last step began at these levels, or if the levels can have changed
-- since.
abbrev pub wait_allows : ℕ → Spacing → ℕ → Bool
wait_allows wait s d = s.last == NO_LEVELS || d == s.last || nat_le wait s.age

-- true if each key is at the same level in `levels[i]` and `levels[j]`; TEST is ignored
abbrev pub have_same_key_levels : List Levels → ℕ → ℕ → Bool
have_same_key_levels levels i j =
    elim (slice_get levels i) [
      | Some l ↦ elim (slice_get levels j) [ Some m ↦ bytes_eq l.keys m.keys | None ↦ false ]
      | None ↦ false
    ]

-- The number of cycles for which a key is known to have been down, if the next step begins at the
-- levels with index `d`. It is 0 if the last step began at other levels of the keys.
abbrev pub down_at_begin : List Levels → Spacing → ℕ → ℕ
down_at_begin levels s d =
    if s.last == NO_LEVELS then 0
    else if have_same_key_levels levels s.last d then s.down
    else 0

-- True if the limit `held` allows the next step to begin at the levels with index `d`. This is so
-- unless a key is known to have been down for `held` cycles, because it would also be down in the
-- step's first cycle. A limit of 0 allows all levels.
abbrev pub held_allows : ℕ → List Levels → Spacing → ℕ → Bool
held_allows held levels s d = held == 0 || nat_lt (down_at_begin levels s d) held

-- true if the next step can begin at the levels with index `d`
abbrev pub can_begin_at : ℕ → ℕ → List Levels → Spacing → ℕ → Bool
can_begin_at wait held levels s d = wait_allows wait s d && held_allows held levels s d

-- The age at the beginning of a step at the levels with index `d`. If the last step began at other
-- levels, the change between them was made as early as possible. The next change comes after the
-- step's first read, so the age is below `wait`.
abbrev pub age_at_begin : ℕ → Spacing → ℕ → ℕ
age_at_begin wait s d =
    if s.last == NO_LEVELS then wait - 1
    else if d == s.last then min s.age (wait - 1)
    else min (s.age - wait) (wait - 1)

-- The number of cycles, at most `held`, for which a key is known to have been down after a step.
-- The step began at the levels `l` with index `d` and took `cycles` cycles, and the keys are at the
-- same levels again at its end. If it took at most `wait` cycles, there was no time for a change to
-- other levels of the keys and a change back.
abbrev pub down_after : ℕ → ℕ → List Levels → Spacing → ℕ → Levels → ℕ → ℕ
down_after wait held levels s d l cycles =
    if has_key_down l && nat_le cycles wait then min (down_at_begin levels s d + cycles) held else 0

-- what the search remembers after a step of `cycles` cycles that began at the levels `l` with index
-- `d`; no age is above twice `wait`
abbrev pub spacing_after : ℕ → ℕ → List Levels → Spacing → ℕ → Levels → ℕ → Spacing
spacing_after wait held levels s d l cycles = record {
  last = d;
  age = min (age_at_begin wait s d + cycles) (2 * wait);
  down = down_after wait held levels s d l cycles;
}

-- the number in the four bytes from index `i` on, least significant byte first
abbrev pub number_at : List ℕ → ℕ → ℕ
number_at bytes i =
    slice_index bytes i + 256 * slice_index bytes (i + 1) + 65536 * slice_index bytes (i + 2) + 16777216 * slice_index bytes (i + 3)

-- What a search remembers, decoded from nine bytes. The first byte is the index of the levels at
-- which the last step began. The next four bytes are the age, and the last four are the cycles for
-- which a key is known to have been down.
abbrev pub spacing_of_bytes : List ℕ → Spacing
spacing_of_bytes bytes = record {
  last = slice_index bytes 0;
  age = number_at bytes 1;
  down = number_at bytes 5;
}

-- ---- timed state vectors

-- the data shared by all states of a search: the setting of its machines, the minimum number of
-- cycles between changes, and the levels at which steps begin
pub record SpacedSetting : Type 0 where
  pub machines : Setting
  pub wait : ℕ
  pub levels : List Levels

-- The first part of a timed state vector. A timed state vector is the state vector of a machine
-- and, after it, nine bytes that hold what the search remembers of the inputs (`spacing_of_bytes`).
abbrev pub machine_vector : SpacedSetting → List ℕ → List ℕ
machine_vector h vector = take (length h.machines.layout) vector

abbrev pub spacing_of_vector : SpacedSetting → List ℕ → Spacing
spacing_of_vector h vector = spacing_of_bytes (drop (length h.machines.layout) vector)

-- ---- the rules of the search

-- holds if the choices in a state contain the index of all levels at which the next step can begin
abbrev pub SpacedCovers : SpacedSetting → List ℕ → List ℕ → Type 0
SpacedCovers h vector choices =
    (d : ℕ) → d < length h.levels → can_begin_at h.wait h.machines.limits.held h.levels (spacing_of_vector h vector) d ≡ true → Contains choices d

-- Holds if machine `a`, at the levels with index `d`, runs to a machine that the state vector
-- `next` identifies. The run takes `cycles` cycles, and the property holds at every step.
pub record RunsToTimedVector (h : SpacedSetting) (vector : List ℕ) (d : ℕ) (next : List ℕ) (a : TrackedMachine) : Type 0 where
  pub to : TrackedMachine
  pub is : IsVectorOf h.machines (machine_vector h next) to
  pub cycles : ℕ
  pub spacing : (l : Levels) → slice_get h.levels d ≡ Some l → spacing_of_vector h next ≡ spacing_after h.wait h.machines.limits.held h.levels (spacing_of_vector h vector) d l cycles
  pub run : (l : Levels) → FitsBoard a.1.board l → slice_get h.levels d ≡ Some l →
      (leads : LeadsTo (observer_of_property h.machines.property) (property_of h.machines) a to l) × (cycles ≡ suc leads.more)

-- holds if each machine that a state vector identifies runs to one that the state vector `next`
-- identifies
abbrev pub SpacedLeads : SpacedSetting → List ℕ → ℕ → List ℕ → Type 0
SpacedLeads h vector d next =
    (a : TrackedMachine) → IsVectorOf h.machines (machine_vector h vector) a → RunsToTimedVector h vector d next a

-- The rules of the search by levels. A choice is an index of levels. The rules promise nothing
-- about a failure.
abbrev pub spaced_rules : SpacedSetting → Rules
spaced_rules h = record {
  is_state = λ vector. IsState h.machines (machine_vector h vector);
  covers = SpacedCovers h;
  leads = SpacedLeads h;
  fails = λ vector d. Unit {0};
}
