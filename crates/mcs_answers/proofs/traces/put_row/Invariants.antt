use Rattle.std.proofs.Common.{◌≡◌, ◌+◌, ◌*◌, ◌≤◌, ◌++◌, take, length}
use Rattle.mcs_model.specs.Command.{machine_of}
use Rattle.mcs_probe.specs.Probes.{row}
use Rattle.mcs_answers.proofs.traces.put_row.Given as goal

abbrev pub invariant-loop-probe : goal.invariant-loop-probe
invariant-loop-probe l = record {
  report : l.answer.items ≡ l.fn.answer.items ++ row (take l.probe-index l.probes) (machine_of l.bench);
  count : length l.answer.items ≤ length l.fn.answer.items + 82 * l.probe-index;
}
