use Rattle.std.proofs.Common.{rules}
use Rattle.mcs_session.proofs.Files.{creates_session, recorded_with_only_snapshot}
use Rattle.mcs_session.proofs.session.Session.create.Goals as goal

pub invariant_of-result : goal.invariant_of-result
invariant_of-result g c = record {
  ready = search rules;
  recorded = λ alive honest.
      let created_session = c.in-Ok-create.ensures.created (c.in-Ok-create.ensures.counts.honest.0 honest) in
      recorded_with_only_snapshot _ _ _ (rw c.as_slice.ensures.value c.encode_state-length.ensures.spells) created_session.holds created_session.durable;
}

pub returns-in-Ok-create-clause-created : goal.returns-in-Ok-create-clause-created
returns-in-Ok-create-clause-created g c = λ honest.
    creates_session _ _ _ _ (rw c.as_slice.ensures.value c.encode_state-length.ensures.spells) c.in-Ok-new.ensures (c.in-Ok-create.ensures.created honest)
