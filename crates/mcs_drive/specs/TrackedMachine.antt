-- Machines with three counts, and properties that hold for all inputs. The counts are the number of
-- open calls, the cycles on a stopwatch, and the number of marks seen. No count is part of the
-- machine: the processor stores three return addresses, but not how many of them are in use.
-- (Defined by Fethsaim, not by Intel.)
use Rattle.std.specs.Prelude.{◌≡◌, ◌<◌, ◌≤◌, ◌+◌, ◌-◌, ℕ, zero, suc, Bool, true, false, Option, Some, None, unwrap_or, nat_lt, nat_le, if◌then◌else◌, ◌==◌, not, ◌&&◌, ◌||◌, List, [], length, slice_get}
use Rattle.mcs_model.specs.declared.op.Op.{Op}
use Rattle.mcs_model.specs.declared.op.Op.TheVariants.{Jms, Bbl}
use Rattle.mcs_model.specs.declared.regs.Regs.{Regs}
use Rattle.mcs_model.specs.Bus.{BusState}
use Rattle.mcs_model.specs.Effect.{cycle_of, instruction_at}
use Rattle.mcs_model.specs.Levels.{port_of}
use Rattle.mcs_model.specs.Running.{Machine}
use Rattle.mcs_drive.specs.declared.marks.Mark.{Mark}
use Rattle.mcs_drive.specs.DrivenRuns.{AreInputsAllowed, InputLimits, Levels, driven as driven_machine}
use Rattle.mcs_drive.specs.InputReads.{reads_input, value_read_by}
use Rattle.mcs_drive.specs.Marks.{shows}

-- the counts of a tracked machine: open calls, cycles that the stopwatch shows, and marks seen
pub record Counts : Type 0 where
  pub calls : ℕ
  pub elapsed : ℕ
  pub seen : ℕ

-- a machine with its counts
abbrev pub TrackedMachine : Type 0
TrackedMachine = Regs × BusState × Counts

-- the machine without its counts
abbrev pub machine_in : TrackedMachine → Machine
machine_in s = (s.0, s.1)

-- a machine in which no call is open, with a stopwatch at 0 and no mark seen
abbrev pub with_zero_counts : Machine → TrackedMachine
with_zero_counts s = (s.0, s.1, record { calls = 0; elapsed = 0; seen = 0 })

-- a tracked machine with its keys and TEST set to the input levels `l`
abbrev pub with_levels : Levels → TrackedMachine → TrackedMachine
with_levels l s = (s.0, record s.1 { keys = l.keys; test = l.test }, s.2)

-- a tracked machine without its input levels: no keys, and TEST at 0
abbrev pub without_levels : TrackedMachine → TrackedMachine
without_levels s = with_levels (record { keys = []; test = 0 }) s

-- ---- open calls

-- The number of open calls after an instruction, if `n` calls are open before it. JMS opens a call,
-- and BBL closes one if any is open. At most three calls are open: a fourth call overwrites the
-- return address of the first.
abbrev pub calls_after : Option Op → ℕ → ℕ
calls_after (Some (Jms h b)) n = if nat_lt n 3 then n + 1 else n
calls_after (Some (Bbl d)) n = n - 1
calls_after _ n = n

-- The instruction that the next cycle begins. There is none if the next cycle is the second cycle
-- of an instruction, which does no work, or if the opcode is outside the opcode table.
abbrev pub next_op : Regs → BusState → Option Op
next_op s m = if s.owed == 1 then None else instruction_at s m

-- the number of open calls after the next cycle, if `n` calls are open before the cycle
abbrev pub open_calls_after : Regs → BusState → ℕ → ℕ
open_calls_after s m n = calls_after (next_op s m) n

-- ---- an observer

-- An observer: the states at which its stopwatch begins, the states at which it ends, and the
-- states at which its condition holds. The observer looks for the marks, in this order, before the
-- condition becomes true.
pub record Observer : Type 0 where
  pub begins : TrackedMachine → Bool
  pub ends : TrackedMachine → Bool
  pub opens : TrackedMachine → Bool
  pub marks : List Mark

-- an observer without marks whose stopwatch never begins and whose condition never holds
abbrev pub no_observer : Observer
no_observer = record { begins = λ s. false; ends = λ s. false; opens = λ s. false; marks = [] }

-- ---- the stopwatch of an observer

-- true if the stopwatch begins at a tracked machine; the input levels of the machine are ignored
abbrev pub begins_at : Observer → TrackedMachine → Bool
begins_at w s = w.begins (without_levels s)

-- true if the stopwatch ends at a tracked machine; the input levels of the machine are ignored
abbrev pub ends_at : Observer → TrackedMachine → Bool
ends_at w s = w.ends (without_levels s)

-- the largest number of cycles that a stopwatch shows: 2^24 - 1
abbrev pub STOPWATCH_MAX : ℕ
STOPWATCH_MAX = 16777215

-- The number that a stopwatch shows after a cycle, if it shows `n` before the cycle: the cycles
-- since the stopwatch began, at most STOPWATCH_MAX. If the stopwatch is at 0 or ends, the number
-- becomes 1 if `begins` is true, else 0. While the stopwatch runs and does not end, `begins` has no
-- effect.
abbrev pub stopwatch_after : ℕ → Bool → Bool → ℕ
stopwatch_after n begins ends =
    if n == 0 || ends then (if begins then 1 else 0) else if nat_lt n STOPWATCH_MAX then n + 1 else n

abbrev pub elapsed_after : Observer → TrackedMachine → ℕ
elapsed_after w s = stopwatch_after s.2.elapsed (begins_at w s) (ends_at w s)

-- ---- the marks of an observer

-- true if the condition holds at a tracked machine; the input levels of the machine are ignored
abbrev pub condition_holds_at : Observer → TrackedMachine → Bool
condition_holds_at w s = w.opens (without_levels s)

-- The number of marks, out of `n`, that were seen in order since the condition last held, or since
-- the start of the run. `seen` is the count of a tracked machine. A count of `n + 1` means that the
-- condition held immediately before, so that no mark has been seen since.
abbrev pub seen_mark_count : ℕ → ℕ → ℕ
seen_mark_count n seen = if nat_lt n seen then 0 else seen

-- The count of marks after a cycle, if the count is `seen` before the cycle. If the condition holds
-- before the cycle (`opens`), the count becomes `n + 1`. Otherwise it becomes the number of seen
-- marks, plus one if the cycle shows the next mark (`shown`).
abbrev pub seen_count_after : ℕ → ℕ → Bool → Bool → ℕ
seen_count_after n seen opens shown =
    if opens then n + 1 else if shown then seen_mark_count n seen + 1 else seen_mark_count n seen

-- true if not all marks are seen, and a read of `value` in the next cycle shows the next mark
abbrev pub shows_next_mark : Observer → TrackedMachine → ℕ → Bool
shows_next_mark w s value =
    elim (slice_get w.marks (seen_mark_count (length w.marks) s.2.seen)) [
      | Some mark ↦ shows (next_op s.0 s.1) s.1 value mark
      | None ↦ false
    ]

-- the count of marks after the next cycle, if that cycle reads `value`
abbrev pub seen_after_reading : Observer → TrackedMachine → ℕ → ℕ
seen_after_reading w s value = seen_count_after (length w.marks) s.2.seen (condition_holds_at w s) (shows_next_mark w s value)

-- the count of marks after the next cycle, if that cycle reads the value at the port of the
-- selected ROM
abbrev pub seen_after : Observer → TrackedMachine → ℕ
seen_after w s = seen_after_reading w s (port_of s.1)

-- ---- runs of a tracked machine

-- the counts after one cycle
abbrev pub counts_after : Observer → TrackedMachine → Counts
counts_after w s = record {
  calls = open_calls_after s.0 s.1 s.2.calls;
  elapsed = elapsed_after w s;
  seen = seen_after w s;
}

-- a tracked machine after one cycle; an opcode outside the opcode table does not change the machine
abbrev pub cycled : Observer → TrackedMachine → TrackedMachine
cycled w s =
    let t = unwrap_or (cycle_of s.0 s.1) (machine_in s) in
    (t.0, t.1, counts_after w s)

-- a tracked machine after `k` cycles at constant input levels
abbrev pub after_cycles : Observer → ℕ → TrackedMachine → TrackedMachine
after_cycles w zero s = s
after_cycles w (suc k) s = cycled w (after_cycles w k s)

-- true if the next cycle reads an input; the second cycle of an instruction never reads one
abbrev pub next_reads_input : TrackedMachine → Bool
next_reads_input s = not (s.0.owed == 1) && reads_input (instruction_at s.0 s.1)

-- the value that the instruction at the program counter reads at the input levels `l`
abbrev pub value_read : Levels → TrackedMachine → ℕ
value_read l s = value_read_by (instruction_at s.0 s.1) l s.1

-- a tracked machine after `k` cycles, if its inputs are set to the levels `f i` before cycle `i`,
-- counted from 0
abbrev pub driven : Observer → (ℕ → Levels) → ℕ → TrackedMachine → TrackedMachine
driven w f zero s = s
driven w f (suc k) s = cycled w (with_levels (f k) (driven w f k s))

-- a tracked run reaches the same machine as the run without counts
abbrev pub CountsKeepMachine : Type 0
CountsKeepMachine =
    (w : Observer) (f : ℕ → Levels) (k : ℕ) (s : TrackedMachine) →
    machine_in (driven w f k s) ≡ driven_machine f k (machine_in s)

-- Holds if `p` is true at every moment of every run from `s` with observer `w`, for all inputs
-- within the limits. In CTL, this is AG p.
abbrev pub Holds : InputLimits → Observer → (TrackedMachine → Bool) → TrackedMachine → Type 0
Holds limits w p s =
    (f : ℕ → Levels) → AreInputsAllowed limits s.1.board f → (k : ℕ) → p (driven w f k s) ≡ true

-- a stopwatch that never shows more than `limit` cycles, with `limit` below STOPWATCH_MAX, ends
-- within `limit` cycles each time it begins
abbrev pub StopwatchEndsWithinLimit : Type 0
StopwatchEndsWithinLimit =
    (limits : InputLimits) (w : Observer) (limit : ℕ) (s : TrackedMachine) → limit < STOPWATCH_MAX →
    Holds limits w (λ t. nat_le t.2.elapsed limit) s →
    (f : ℕ → Levels) → AreInputsAllowed limits s.1.board f →
    (k : ℕ) → begins_at w (driven w f k s) ≡ true →
    (d : ℕ) × (1 ≤ d) × (d ≤ limit) × (ends_at w (driven w f (k + d) s) ≡ true)
