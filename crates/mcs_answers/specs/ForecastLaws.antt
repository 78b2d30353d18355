-- Theorems: the answers to `count` and `trace` agree with each other and with a run.
use Rattle.std.specs.Prelude.{◌≡◌, ℕ, ◌+◌, ◌-◌, ◌++◌, Bool, List, [], codes, drop, length}
use Rattle.std.specs.Fmt.{decimal}
use Rattle.std.specs.List.{count_by, flat_map}
use Rattle.std.specs.Str.{bytes_eq}
use Rattle.mcs_model.specs.declared.command.Command.TheVariants.{Run}
use Rattle.mcs_model.specs.BenchState.{BenchState}
use Rattle.mcs_model.specs.Command.{after, machine_of, reply, stops_of}
use Rattle.mcs_model.specs.QueryText.{address_text}
use Rattle.mcs_model.specs.Running.{run_length}
use Rattle.mcs_probe.specs.declared.probe.Probe.{Probe}
use Rattle.mcs_probe.specs.Forecast.{instructions_begun_in, with_earlier_start, runs_at}
use Rattle.mcs_answers.specs.ForecastTexts.{forecast_head, trace_line, trace_lines}
use Rattle.mcs_answers.specs.AnswerTexts.{reply_text}

-- Holds if the first line of the answer to `count n` or `trace n` agrees with the answer to
-- `run n`. The two answers report the same number of cycles and the same reason to stop.
abbrev pub HeadsReportTheRun : Type 0
HeadsReportTheRun =
    (word : List ℕ) (b : BenchState) (n : ℕ) (lines : List (List ℕ)) →
    forecast_head word b n lines
    ≡ word ++ reply_text (reply b (Run n)) ++ codes " lines " ++ decimal (length lines)

-- the lines of a trace of `n` cycles that starts after `m` cycles of a run; cycles are counted from
-- the start of the run
abbrev pub trace_lines_from : List Probe → ℕ → BenchState → ℕ → List (List ℕ)
trace_lines_from probes m b n =
    flat_map (λ x. trace_line probes (with_earlier_start m x)) (instructions_begun_in (stops_of b) n (machine_of b))

-- Holds if a trace of `m + n` cycles is a trace of `m` cycles, followed by a trace of `n` cycles
-- that starts after `run m`. The second trace counts its cycles from `m`. The premise is that
-- nothing stops the run of `m + n` cycles early.
abbrev pub TracesAddUp : Type 0
TracesAddUp =
    (probes : List Probe) (b : BenchState) (m n : ℕ) →
    run_length (stops_of b) (m + n) (machine_of b) ≡ m + n →
    trace_lines probes b (m + n)
    ≡ trace_lines probes b m ++ trace_lines_from probes m (after b (Run m)) n

-- True if a line of a trace without probes reports an instruction at address `at`, which means that
-- the line ends with the text of this address.
abbrev pub is_line_at : ℕ → List ℕ → Bool
is_line_at at line = bytes_eq (drop (length line - 3) line) (address_text at)

-- holds if the number of instructions begun at an address is the number of lines with that address
-- in a trace without probes
abbrev pub CountsMatchTheTrace : Type 0
CountsMatchTheTrace =
    (b : BenchState) (n at : ℕ) →
    runs_at (instructions_begun_in (stops_of b) n (machine_of b)) at
    ≡ count_by (is_line_at at) (trace_lines [] b n)
