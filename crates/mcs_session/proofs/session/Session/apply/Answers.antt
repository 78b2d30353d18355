use Rattle.std.proofs.Common.{rules, IsTrue}
use Rattle.mcs_session.proofs.session.Session.apply.Goals as goal

pub invariant_of-self : goal.invariant_of-self
invariant_of-self g c =
    let live : IsTrue c.self.inside.log.store.live = search rules in
    record {
      ready = c.in-Ok.ensures.ready;
      recorded = λ alive h.
          let honest = c.in-Ok.ensures.counts.honest.0 h in
          rw c.apply.ensures.state (c.in-Ok.ensures.recorded honest (c.self.invariant.recorded live honest));
    }

pub record-requires-clause-accepted : goal.record-requires-clause-accepted
record-requires-clause-accepted g c = search rules

pub returns-in-Ok-clause-applied : goal.returns-in-Ok-clause-applied
returns-in-Ok-clause-applied g c = search rules
