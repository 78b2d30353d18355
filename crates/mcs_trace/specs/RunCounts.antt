-- The counts of a forecast run. A forecast run does not change the bench.
use Rattle.std.specs.Prelude.{◌≡◌, ◌<◌, ◌+◌, ℕ, List, Bool, length, slice_index, slice_set, if◌then◌else◌}
use Rattle.mcs_model.specs.Running.{Machine, StopConditions, run_length, run_stop_reason}
use Rattle.mcs_probe.specs.Forecast.{instructions_begun_in, runs_at, jumps_at}
use Rattle.mcs_trace.specs.declared.counting.Counts.{Counts}

-- the list `xs`, with the element at index `at` increased by 1 if `is_counted` is true
abbrev pub incremented_if : List ℕ → Bool → ℕ → List ℕ
incremented_if xs is_counted at = if is_counted then slice_set xs at (slice_index xs at + 1) else xs

-- holds if the list contains `count at` for each of the 4,096 addresses
pub record IsTally (xs : List ℕ) (count : ℕ → ℕ) : Type 0 where
  pub len : length xs ≡ 4096
  pub each : (at : ℕ) → at < 4096 → slice_index xs at ≡ count at

-- holds if `c` contains the number of cycles, the reason to stop, and the counts of a run of at
-- most `n` cycles from `s`
pub record AreCountsOfRun (stops : StopConditions) (n : ℕ) (s : Machine) (c : Counts) : Type 0 where
  pub cycles : c.cycles ≡ run_length stops n s
  pub stop : c.stop ≡ run_stop_reason stops n s
  pub runs : IsTally c.runs.items (runs_at (instructions_begun_in stops n s))
  pub jumps : IsTally c.jumps.items (jumps_at (instructions_begun_in stops n s))
