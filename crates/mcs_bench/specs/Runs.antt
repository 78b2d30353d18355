-- The results of a bench's runs and steps.
use Rattle.std.specs.Prelude.{◌≡◌, ◌≢◌, ◌⊎◌, ℕ, ◌+◌, ◌-◌, slice_index, ◌&&◌, ◌==◌, not, ◌<◌, ◌≤◌, false, Bool, Option, None, Some, List, [], if◌then◌else◌, unwrap_or, MatchOption}
use Rattle.mcs_model.specs.declared.command.Command.TheVariants.{Run}
use Rattle.mcs_model.specs.declared.op.Op.TheVariants.{Wrm}
use Rattle.mcs_model.specs.declared.stop.Stop.{Stop}
use Rattle.mcs_model.specs.declared.stop.Stop.TheVariants.{Outside, Breakpoint, Watched, Ended}
use Rattle.mcs_model.specs.Command.{after_change}
use Rattle.mcs_model.specs.BenchState.{BenchState}
use Rattle.mcs_model.specs.Listed.{is_listed}
use Rattle.mcs_model.specs.Bus.{src_of, ram_index, after_ram}
use Rattle.mcs_model.specs.Effect.{instruction_at}
use Rattle.mcs_bench.specs.declared.running.InstructionResult.{InstructionResult}
use Rattle.mcs_model.specs.Running.{Machine, StopConditions, is_outside_table, after_cycles, at_break, has_changed, stop_reason_after, run_length, after_run, run_stop_reason, step_length, after_step, step_stop_reason}
use Rattle.mcs_cpu4004.specs.IsInstructionRun.{IsInstructionRun}

-- the debug stop after a cycle: `Breakpoint` if `at_breakpoint` is true, otherwise `Watched` if
-- `changed_watch` is true, otherwise none
abbrev pub debug_stop_of : Bool → Bool → Option Stop
debug_stop_of at_breakpoint changed_watch = if at_breakpoint then Some Breakpoint else if changed_watch then Some Watched else None

-- the debug stop at the machine `t`, if any, after cycle `k` of a run. That cycle led from `s` to
-- `t`.
abbrev pub debug_stop_at : StopConditions → ℕ → Machine → Machine → Option Stop
debug_stop_at stops k s t = debug_stop_of (at_break stops.breaks k t) (has_changed stops.watches s t)

-- Holds if a run of at most `n` cycles from `s` reaches `t` after `k` cycles and stops there, with
-- no earlier reason to stop. `mark` is the debug stop at `t`, if any. If `mark` is `None`, all `n`
-- cycles are done or no cycle is possible at `t`.
pub record RunStopsAt (stops : StopConditions) (n : ℕ) (s t : Machine) (k : ℕ) (mark : Option Stop) : Type 0 where
  pub machine : t ≡ after_cycles k s
  pub within : k ≤ n
  pub passed : (j : ℕ) → j < k → stop_reason_after stops n s j ≡ None
  pub found : debug_stop_at stops k (after_cycles (k - 1) s) t ≡ mark
  pub unmarked : mark ≡ None → is_outside_table t ≡ false → k ≡ n

-- Holds if a run of at most `n` cycles from `s` reaches `t` after `k` cycles, with no earlier
-- reason to stop. There is no debug stop at `t`: neither a breakpoint nor a change of a watched RAM
-- nibble.
pub record RunContinuesAt (stops : StopConditions) (n k : ℕ) (s t : Machine) : Type 0 where
  pub at : t ≡ after_cycles k s
  pub within : k ≤ n
  pub before : (j : ℕ) → j < k → stop_reason_after stops n s j ≡ None
  pub unmarked : debug_stop_at stops k (after_cycles (k - 1) s) t ≡ None

-- Holds if a run of at most `n` cycles from `s` reaches `t` after `k` cycles, with no earlier
-- reason to stop. `mark` is the debug stop at `t`, if any.
abbrev pub RunReaches : StopConditions → ℕ → Machine → Machine → ℕ → Option Stop → Type 0
RunReaches stops n s t k mark = MatchOption mark (RunContinuesAt stops n k s t) (λ why. RunStopsAt stops n s t k (Some why))

-- the index of the RAM nibble that the SRC byte of the designated bank selects
abbrev pub selected_index : Machine → ℕ
selected_index t = ram_index t.0.dcl (src_of t.1 t.0.dcl)

-- true if WRM would change the value of the selected RAM nibble
abbrev pub wrm_changes_selected_nibble : Machine → Bool
wrm_changes_selected_nibble t =
    not (slice_index t.1.ram (selected_index t)
    == slice_index (after_ram t.1 t.0.dcl t.0.acc).ram (selected_index t))

-- holds if `b` is true exactly when the instruction at the program counter changes the value of the
-- selected RAM nibble and that RAM nibble is watched
abbrev pub PredictsWatchChange : List ℕ → Machine → Bool → Type 0
PredictsWatchChange watches t b =
    (((watches ≡ []) ⊎ (instruction_at t.0 t.1 ≢ Some Wrm)) × (b ≡ false))
    ⊎ ((instruction_at t.0 t.1 ≡ Some Wrm) ×
    (b ≡ (is_listed watches (selected_index t) && wrm_changes_selected_nibble t)))

-- Holds if no cycle before the last of the `d` cycles from `t` changes a watched RAM nibble.
-- `changed_watch` is true exactly when the last cycle changes a watched RAM nibble.
pub record WatchChanges (watches : List ℕ) (t : Machine) (d : ℕ) (changed_watch : Bool) : Type 0 where
  pub before : (j : ℕ) → 0 < j → j < d → has_changed watches (after_cycles (j - 1) t) (after_cycles j t) ≡ false
  pub last : 0 < d → has_changed watches (after_cycles (d - 1) t) (after_cycles d t) ≡ changed_watch

-- holds if a run of at most `n` cycles from `s` takes `k` cycles, reaches `t` and stops for the
-- reason `why`
pub record IsRunResult (stops : StopConditions) (n : ℕ) (s t : Machine) (k : ℕ) (why : Stop) : Type 0 where
  pub cycles : k ≡ run_length stops n s
  pub machine : t ≡ after_run stops n s
  pub stop : why ≡ run_stop_reason stops n s

-- the reason why a run stops at the machine `t`: `Outside` if no cycle is possible, otherwise
-- `mark`, or `Ended` if `mark` is `None`
abbrev pub stop_reason : Machine → Option Stop → Stop
stop_reason t mark = if is_outside_table t then Outside else unwrap_or mark Ended

-- holds if one instruction or a pending second cycle leads from `s` to `t` with the result `w`. The
-- run has `left` cycles left at `s`.
pub record IsInstructionResult (stops : StopConditions) (left : ℕ) (s t : Machine) (w : InstructionResult) : Type 0 where
  -- `t` is the machine after `w.cycles` cycles
  pub ran : IsInstructionRun left s t w.cycles
  pub some : 0 < w.cycles
  -- no watched RAM nibble changes before the last of these cycles
  pub unchanged : (j : ℕ) → 0 < j → j < w.cycles →
      has_changed stops.watches (after_cycles (j - 1) s) (after_cycles j s) ≡ false
  pub mark : w.mark ≡ debug_stop_at stops w.cycles (after_cycles (w.cycles - 1) s) t
  pub op : w.op ≡ (if s.0.owed == 1 then None else instruction_at s.0 s.1)

-- holds if a step from `s` takes `k` cycles, reaches `t` and stops for the reason `why`
pub record IsStepResult (s t : Machine) (k : ℕ) (why : Stop) : Type 0 where
  pub cycles : k ≡ step_length s
  pub machine : t ≡ after_step s
  pub stop : why ≡ step_stop_reason s

-- A run of at most `a` cycles and then a run of at most `b` cycles reach the same state as one run
-- of at most `a + b` cycles. No breakpoint may be set, and no RAM nibble may be watched.
abbrev pub RunsAddUp : Type 0
RunsAddUp =
    (s : BenchState) (a b : ℕ) → s.breakpoints ≡ [] → s.watches ≡ [] →
    after_change (after_change s (Run a)) (Run b) ≡ after_change s (Run (a + b))
