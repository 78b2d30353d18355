use Rattle.std.proofs.Common.{◌≡◌, ◌-◌}
use Rattle.mcs_model.specs.Command.{machine_of, stops_of}
use Rattle.mcs_bench.specs.Runs.{RunContinuesAt}
use Rattle.mcs_answers.proofs.ForecastLines.{IsTraceSoFar}
use Rattle.mcs_answers.proofs.traces.add_lines.Given as goal

abbrev pub invariant-loop-elapsed : goal.invariant-loop-elapsed
invariant-loop-elapsed g l = record {
  continues : RunContinuesAt (stops_of l.fn.bench) l.n l.elapsed (machine_of l.fn.bench) (machine_of l.copy);
  stops : stops_of l.copy ≡ stops_of l.fn.bench;
  report : IsTraceSoFar l.probes l.elapsed (machine_of l.fn.bench) (machine_of l.copy) l.rows.last.items l.text.items l.lines;
}

abbrev pub decreases-loop-elapsed : goal.decreases-loop-elapsed
decreases-loop-elapsed g l = l.n - l.elapsed
