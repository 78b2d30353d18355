-- The answers to `count` and `trace`. They report what a run would do, but the bench does not
-- change.
use Rattle.std.specs.Prelude.{ℕ, Bool, true, not, List, [], ◌∷◌, ◌++◌, codes, length, nat_lt, if◌then◌else◌}
use Rattle.std.specs.Fmt.{decimal}
use Rattle.std.specs.List.{flat_map, range_with_len}
use Rattle.std.specs.Str.{bytes_eq}
use Rattle.mcs_model.specs.BenchState.{BenchState}
use Rattle.mcs_model.specs.Command.{machine_of, stops_of}
use Rattle.mcs_model.specs.QueryText.{address_text}
use Rattle.mcs_model.specs.TextLines.{as_line, text_of}
use Rattle.mcs_model.specs.Running.{Machine, run_length, run_stop_reason}
use Rattle.mcs_probe.specs.declared.probe.Probe.{Probe}
use Rattle.mcs_probe.specs.Forecast.{BegunInstruction, instructions_begun_in, is_branch, jumps_at, runs_at}
use Rattle.mcs_probe.specs.Probes.{row}
use Rattle.mcs_answers.specs.AnswerTexts.{stop_name}

-- The start of the first line of an answer: `word`, the number of cycles that the run would take,
-- its reason to stop, and the number of lines that follow.
abbrev pub forecast_head : List ℕ → BenchState → ℕ → List (List ℕ) → List ℕ
forecast_head word b n lines =
    word ++ codes " ran " ++ decimal (run_length (stops_of b) n (machine_of b))
    ++ codes " " ++ stop_name (run_stop_reason (stops_of b) n (machine_of b))
    ++ codes " lines " ++ decimal (length lines)

-- The lines of `count` for an address: one if the run begins an instruction there, else none. A
-- line has the address and the number of instructions begun there. For JCN and ISZ, the line also
-- has the number of jumps (`jumps_at`): how often the program counter after the instruction is not
-- the address plus 2.
abbrev pub count_line : List BegunInstruction → Machine → ℕ → List (List ℕ)
count_line begun s at =
    if nat_lt 0 (runs_at begun at)
    then (address_text at ++ codes " " ++ decimal (runs_at begun at)
    ++ (if is_branch s at then codes " " ++ decimal (jumps_at begun at) else [])) ∷ []
    else []

-- the addresses below `n`
unfoldable pub addresses : ℕ → List ℕ
addresses n = range_with_len 0 n

-- the lines of `count` for a run of `n` cycles, by ascending address
abbrev pub count_lines : BenchState → ℕ → List (List ℕ)
count_lines b n =
    flat_map (count_line (instructions_begun_in (stops_of b) n (machine_of b)) (machine_of b)) (addresses 4096)

-- the answer to `count`: its first line, and then the lines of the addresses
abbrev pub count_answer : ℕ → BenchState → List ℕ
count_answer n b =
    as_line (forecast_head (codes "count") b n (count_lines b n)) ++ text_of (count_lines b n)

-- True if an instruction has a line in a trace. An instruction has a line if there are no probes,
-- or if the row of probe values after the instruction differs from the row before it.
abbrev pub is_reported : List Probe → List ℕ → List ℕ → Bool
is_reported [] before after = true
is_reported probes before after = not (bytes_eq after before)

-- The lines of `trace` for an instruction: one or none. A line has the number of cycles executed
-- before the instruction, the address of the instruction, and the row after it.
abbrev pub trace_line : List Probe → BegunInstruction → List (List ℕ)
trace_line probes b =
    if is_reported probes (row probes b.before) (row probes b.after)
    then (decimal b.cycles ++ codes " " ++ address_text b.before.0.pc ++ row probes b.after) ∷ []
    else []

-- the lines of `trace` for a run of `n` cycles, in order
abbrev pub trace_lines : List Probe → BenchState → ℕ → List (List ℕ)
trace_lines probes b n =
    flat_map (trace_line probes) (instructions_begun_in (stops_of b) n (machine_of b))

-- the answer to `trace`; its first line ends with the row before the run
abbrev pub trace_answer : List Probe → ℕ → BenchState → List ℕ
trace_answer probes n b =
    as_line (forecast_head (codes "trace") b n (trace_lines probes b n) ++ row probes (machine_of b))
    ++ text_of (trace_lines probes b n)
