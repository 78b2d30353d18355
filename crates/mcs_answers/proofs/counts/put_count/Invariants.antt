use Rattle.std.proofs.Common.{◌≡◌, ◌≤◌, length}
use Rattle.std.specs.List.{flat_map}
use Rattle.mcs_model.specs.Command.{machine_of, stops_of}
use Rattle.mcs_model.specs.TextLines.{as_line}
use Rattle.mcs_probe.specs.Forecast.{instructions_begun_in}
use Rattle.mcs_answers.specs.ForecastTexts.{addresses, count_line}
use Rattle.mcs_answers.proofs.counts.put_count.Given as goal

abbrev pub invariant-loop-i : goal.invariant-loop-i
invariant-loop-i l = record {
  report : l.text.items ≡ flat_map as_line (flat_map (count_line (instructions_begun_in (stops_of l.bench) l.n (machine_of l.bench)) (machine_of l.bench)) (addresses l.i));
  count : l.lines ≡ length (flat_map (count_line (instructions_begun_in (stops_of l.bench) l.n (machine_of l.bench)) (machine_of l.bench)) (addresses l.i));
  within : l.lines ≤ l.i;
}
