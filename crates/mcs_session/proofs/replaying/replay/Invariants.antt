use Rattle.std.proofs.Common.{◌≤◌, ◌-◌, length, take}
use Rattle.mcs_model.specs.declared.limits.TheConstants.{REPLAY_CYCLES}
use Rattle.mcs_session.specs.Invariant.{IsReplayed}
use Rattle.mcs_session.proofs.replaying.replay.Given as goal

abbrev pub invariant-loop-at : goal.invariant-loop-at
invariant-loop-at l = record {
  within : l.at ≤ length l.records;
  bounded : l.cycles ≤ REPLAY_CYCLES;
  so_far : IsReplayed l.version l.snap (take l.at l.records) l.cycles l.bench;
}

abbrev pub decreases-loop-at : goal.decreases-loop-at
decreases-loop-at l = length l.records - l.at
