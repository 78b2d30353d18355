use Rattle.std.proofs.Common.{◌≡◌, take}
use Rattle.mcs_model.specs.Bus.{BusState}
use Rattle.mcs_model.specs.Effect.{bus_after}
use Rattle.mcs_probe.specs.Probes.{row}
use Rattle.mcs_answers.proofs.traces.row_stays_same_by_values.Given as goal

abbrev pub invariant-loop-probe : goal.invariant-loop-probe
invariant-loop-probe l = (m : BusState) → row (take l.probe-index l.probes) (l.after, bus_after l.op l.before m) ≡ row (take l.probe-index l.probes) (l.before, m)
