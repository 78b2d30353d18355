use Rattle.std.proofs.Common.{take}
use Rattle.mcs_answers.specs.UnchangedProbes.{CoversProbes}
use Rattle.mcs_answers.proofs.traces.kinds_of_probes.Given as goal

abbrev pub invariant-loop-probe : goal.invariant-loop-probe
invariant-loop-probe l = CoversProbes l.probe_kinds (take l.probe-index l.probes)
