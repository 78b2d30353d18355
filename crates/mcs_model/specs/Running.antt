-- Runs and steps: the instruction cycle, repeated until the first reason to stop. (Defined by
-- Fethsaim, not by Intel.)
use Rattle.std.specs.Prelude.{ℕ, ◌+◌, zero, suc, Bool, ◌&&◌, List, Option, Some, None, is_none, is_some, not, slice_index, ◌-◌, if◌then◌else◌, nat_lt, ◌==◌, unwrap_or, find}
use Rattle.std.specs.List.{range_with_len, list_any}
use Rattle.mcs_model.specs.declared.regs.Regs.{Regs}
use Rattle.mcs_model.specs.declared.stop.Stop.{Stop}
use Rattle.mcs_model.specs.declared.stop.Stop.TheVariants.{Outside, Breakpoint, Watched, Ended}
use Rattle.mcs_model.specs.Bus.{BusState}
use Rattle.mcs_model.specs.Effect.{cycle_of}

-- a machine: the registers of a processor, and the state of its bus
abbrev pub Machine : Type 0
Machine = Regs × BusState

-- true if no cycle is possible: no second cycle is pending, and the opcode at the program counter
-- is outside the table
abbrev pub is_outside_table : Machine → Bool
is_outside_table s = is_none (cycle_of s.0 s.1)

-- the machine after `k` cycles; if no cycle is possible, the machine stays unchanged
abbrev pub after_cycles : ℕ → Machine → Machine
after_cycles zero s = s
after_cycles (suc k) s = unwrap_or (cycle_of (after_cycles k s).0 (after_cycles k s).1) (after_cycles k s)

-- True if a run is at a breakpoint after `k` cycles; `s` is the machine after these cycles. A
-- breakpoint does not count at the start of the run, or between the two cycles of an instruction.
abbrev pub at_break : List ℕ → ℕ → Machine → Bool
at_break breaks k s = nat_lt 0 k && s.0.owed == 0 && list_any (λ a. a == s.0.pc) breaks

-- true if the value of a watched RAM nibble differs between the machines `s` and `t`
abbrev pub has_changed : List ℕ → Machine → Machine → Bool
has_changed watches s t =
    list_any (λ w. not (slice_index s.1.ram w == slice_index t.1.ram w)) watches

-- the breakpoints and the watched RAM nibbles of a run
pub record StopConditions : Type 0 where
  pub breaks : List ℕ
  pub watches : List ℕ

-- The reason why a run of at most `n` cycles stops after `k` cycles, or none. `t` is the machine
-- after these `k` cycles, and `s` is the machine before the last of these cycles.
abbrev pub stop_reason_at : StopConditions → ℕ → ℕ → Machine → Machine → Option Stop
stop_reason_at stops n k s t =
    if is_outside_table t then Some Outside
    else if at_break stops.breaks k t then Some Breakpoint
    else if has_changed stops.watches s t then Some Watched
    else if k == n then Some Ended
    else None

-- The reason why a run of at most `n` cycles from the machine `s` stops after `k` cycles, or none.
-- If `k` is 0, the run has executed no cycle, so no watched RAM nibble has changed.
abbrev pub stop_reason_after : StopConditions → ℕ → Machine → ℕ → Option Stop
stop_reason_after stops n s k = stop_reason_at stops n k (after_cycles (k - 1) s) (after_cycles k s)

-- the number of cycles that a run of at most `n` cycles executes: the least number of cycles after
-- which the run stops
abbrev pub run_length : StopConditions → ℕ → Machine → ℕ
run_length stops n s =
    unwrap_or (find (λ k. is_some (stop_reason_after stops n s k)) (range_with_len 0 (n + 1))) n

-- the machine after a run of at most `n` cycles from the machine `s`
abbrev pub after_run : StopConditions → ℕ → Machine → Machine
after_run stops n s = after_cycles (run_length stops n s) s

-- the reason why a run of at most `n` cycles from the machine `s` stops
abbrev pub run_stop_reason : StopConditions → ℕ → Machine → Stop
run_stop_reason stops n s = unwrap_or (stop_reason_after stops n s (run_length stops n s)) Ended

-- The reason why a step stops after `k` cycles, or none; `s` is the machine after these `k` cycles.
-- A step stops at its start if no cycle is possible. Otherwise it stops after the first cycle that
-- leaves no second cycle pending.
abbrev pub step_stop_reason_at : ℕ → Machine → Option Stop
step_stop_reason_at zero s = if is_outside_table s then Some Outside else None
step_stop_reason_at (suc k) s = if s.0.owed == 0 then Some Ended else None

-- the number of cycles that a step executes, at most 2: the least number of cycles after which the
-- step stops
abbrev pub step_length : Machine → ℕ
step_length s = unwrap_or (find (λ k. is_some (step_stop_reason_at k (after_cycles k s))) (range_with_len 0 3)) 2

-- the machine after a step
abbrev pub after_step : Machine → Machine
after_step s = after_cycles (step_length s) s

-- the reason why a step stops
abbrev pub step_stop_reason : Machine → Stop
step_stop_reason s = unwrap_or (step_stop_reason_at (step_length s) (after_step s)) Ended
