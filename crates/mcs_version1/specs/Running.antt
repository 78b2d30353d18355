-- Runs in version 1, which has no watches. A run repeats the instruction cycle until the first
-- reason to stop.
use Rattle.std.specs.Prelude.{ℕ, ◌+◌, List, Option, Some, None, is_some, if◌then◌else◌, ◌==◌, unwrap_or, find}
use Rattle.std.specs.List.{range_with_len}
use Rattle.mcs_model.specs.declared.stop.Stop.{Stop}
use Rattle.mcs_model.specs.declared.stop.Stop.TheVariants.{Outside, Breakpoint, Ended}
use Rattle.mcs_model.specs.Running.{Machine, is_outside_table, after_cycles, at_break}

-- the reason why a run of at most `n` cycles stops after `k` cycles, or `None` if it does not stop
-- there; `s` is the machine after these `k` cycles
abbrev pub stop_at_1 : List ℕ → ℕ → ℕ → Machine → Option Stop
stop_at_1 breaks n k s =
    if is_outside_table s then Some Outside
    else if at_break breaks k s then Some Breakpoint
    else if k == n then Some Ended
    else None

-- the number of cycles that a run of at most `n` cycles from the machine `s` executes: the least
-- number after which the run stops
abbrev pub run_length_1 : List ℕ → ℕ → Machine → ℕ
run_length_1 breaks n s =
    unwrap_or (find (λ k. is_some (stop_at_1 breaks n k (after_cycles k s))) (range_with_len 0 (n + 1))) n

-- the machine after a run of at most `n` cycles from the machine `s`
abbrev pub after_run_1 : List ℕ → ℕ → Machine → Machine
after_run_1 breaks n s = after_cycles (run_length_1 breaks n s) s

-- the reason why a run of at most `n` cycles from the machine `s` stops
abbrev pub run_stop_1 : List ℕ → ℕ → Machine → Stop
run_stop_1 breaks n s =
    unwrap_or (stop_at_1 breaks n (run_length_1 breaks n s) (after_run_1 breaks n s)) Ended
