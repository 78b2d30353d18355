-- The lines that one cycle adds to a trace, and the result of a traced run.
use Rattle.std.specs.Prelude.{◌≡◌, ◌==◌, ℕ, Bool, List, ◌∷◌, [], ◌++◌, codes, length, if◌then◌else◌}
use Rattle.std.specs.Fmt.{decimal}
use Rattle.std.specs.List.{flat_map}
use Rattle.mcs_model.specs.BenchState.{BenchState}
use Rattle.mcs_model.specs.Command.{machine_of, stops_of}
use Rattle.mcs_model.specs.QueryText.{address_text}
use Rattle.mcs_model.specs.TextLines.{as_line}
use Rattle.mcs_model.specs.Running.{run_length, run_stop_reason}
use Rattle.mcs_probe.specs.declared.probe.Probe.{Probe}
use Rattle.mcs_answers.specs.declared.traces.TraceResult.{TraceResult}
use Rattle.mcs_answers.specs.ForecastTexts.{is_reported, trace_lines}

-- one trace line if `report` is true, else none
abbrev pub line_if_reported : Bool → ℕ → ℕ → List ℕ → List (List ℕ)
line_if_reported report cycles at row =
    if report then (decimal cycles ++ codes " " ++ address_text at ++ row) ∷ [] else []

-- the trace lines of a cycle: one or none; the second cycle of an instruction (`owed` is not 0) has
-- none
abbrev pub cycle_lines : List Probe → ℕ → ℕ → ℕ → List ℕ → List ℕ → List (List ℕ)
cycle_lines probes owed cycles at before after =
    if owed == 0 then line_if_reported (is_reported probes before after) cycles at after else []

-- holds if `t` and `text` are the result and the lines of a trace of `n` cycles
pub record IsTraceOfRun (probes : List Probe) (n : ℕ) (b : BenchState) (t : TraceResult) (text : List ℕ) : Type 0 where
  pub cycles : t.cycles ≡ run_length (stops_of b) n (machine_of b)
  pub stop : t.stop ≡ run_stop_reason (stops_of b) n (machine_of b)
  pub lines : t.lines ≡ length (trace_lines probes b n)
  pub lines_text : text ≡ flat_map as_line (trace_lines probes b n)
