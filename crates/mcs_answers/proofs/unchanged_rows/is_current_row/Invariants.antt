use Rattle.std.proofs.Common.{◌≡◌, ◌++◌, take}
use Rattle.mcs_model.specs.Command.{machine_of}
use Rattle.mcs_probe.specs.Probes.{row}
use Rattle.mcs_answers.proofs.unchanged_rows.is_current_row.Given as goal

abbrev pub invariant-loop-probe : goal.invariant-loop-probe
invariant-loop-probe l = l.text ≡ row (take l.probe-index l.probes) (machine_of l.bench) ++ l.rest
