use Rattle.std.proofs.Common.{◌≡◌, ◌-◌}
use Rattle.mcs_model.specs.Command.{machine_of, stops_of}
use Rattle.mcs_trace.proofs.CountLemmas.{CountedSoFar}
use Rattle.mcs_trace.proofs.counting.count_run.Given as goal

abbrev pub invariant-loop-done : goal.invariant-loop-done
invariant-loop-done l = record {
  counting : CountedSoFar (stops_of l.fn.bench) l.n l.done (machine_of l.fn.bench) (machine_of l.copy) l.runs.items l.jumps.items;
  stops : stops_of l.copy ≡ stops_of l.fn.bench;
}

abbrev pub decreases-loop-done : goal.decreases-loop-done
decreases-loop-done l = l.n - l.done
