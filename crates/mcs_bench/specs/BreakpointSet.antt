-- The flags that a bench keeps with its breakpoints. These flags let a run check an address in
-- constant time. (Defined by Fethsaim, not by Intel.)
use Rattle.mcs_model.specs.declared.limits.TheConstants.{WATCHES}
use Rattle.std.specs.Prelude.{◌≡◌, ℕ, ◌<◌, ◌≤◌, All, Bool, false, List, length, slice_index_or}
use Rattle.std.specs.List.Sorted.{IsStrictlyIncreasing}
use Rattle.mcs_model.specs.Listed.{is_listed}

-- Holds if the breakpoints are strictly increasing and `flags` has one flag for each of the 4,096
-- addresses. A flag is true exactly when its address is a breakpoint.
pub record HasFlags (flags : List Bool) (breakpoints : List ℕ) : Type 0 where
  pub rising : IsStrictlyIncreasing breakpoints
  pub flag_count : length flags ≡ 4096
  pub at : (a : ℕ) → a < 4096 → slice_index_or flags a false ≡ is_listed breakpoints a

-- holds if there are at most 8 indices, each of a RAM nibble
pub record AreRamIndices (indices : List ℕ) : Type 0 where
  pub few : length indices ≤ WATCHES
  pub within : All (λ a. a < 2048) indices
