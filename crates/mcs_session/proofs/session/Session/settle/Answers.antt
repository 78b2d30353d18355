use Rattle.mcs_disk.proofs.CallSequences.{at_most_one_unsynced_without_calls}
use Rattle.std.proofs.Common.{rules, IsTrue}
use Rattle.mcs_session.proofs.Room.{leaves_state_while_records_are_replaced, recorded_after_snapshot, settles_session_by_snapshot}
use Rattle.mcs_session.proofs.session.Session.settle.Goals as goal
use Rattle.mcs_session.proofs.session.Session.settle.Goals.{in-Ok, in-Err}

pub invariant_of-self : goal.invariant_of-self
invariant_of-self g c =
    let live : IsTrue c.self.inside.log.store.live = search rules in
    record {
      ready = c.checkpoint.ensures.ready;
      recorded = λ alive h.
          let honest = c.checkpoint.ensures.counts.honest.0 h in
          let is_recorded = c.self.invariant.recorded live honest in
          recorded_after_snapshot _ _ _ _ _ _ _ is_recorded (rw c.checkpoint.ensures.live at alive) (c.checkpoint.ensures.replaces honest is_recorded.represents.snap is_recorded.represents.records is_recorded.represents.holds) c.checkpoint.ensures.used;
    }

pub returns-clause-settles : goal.returns-clause-settles
returns-clause-settles g c = λ h.
    let live : IsTrue c.self.inside.log.store.live = search rules in
    let honest = rw (← c.self.view_is) at h in
    let is_recorded = c.self.invariant.recorded live honest in
    elim c.match-checkpoint.branch [
      | in-Ok w ↦
          let changes = w.in-Ok.ensures.replaces honest is_recorded.represents.snap is_recorded.represents.records is_recorded.represents.holds in
          rw (w.result-is, ← c.self.view_is) (settles_session_by_snapshot _ _ _ _ is_recorded changes.leaves changes.after changes.durable changes.ticks)
      | in-Err w ↦
          let changes = w.in-Err.ensures.replaces honest is_recorded.represents.snap is_recorded.represents.records is_recorded.represents.holds in
          rw (w.result-is, ← c.self.view_is) (is_recorded.represents, leaves_state_while_records_are_replaced _ _ _ _ is_recorded changes.leaves)
    ]

pub returns-then-not-is_open-clause-one_unsynced : goal.returns-then-not-is_open-clause-one_unsynced
returns-then-not-is_open-clause-one_unsynced g c = at_most_one_unsynced_without_calls _
