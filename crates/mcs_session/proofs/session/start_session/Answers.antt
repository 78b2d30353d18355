use Rattle.mcs_disk.proofs.CallSequences.{at_most_one_unsynced_without_calls}
use Rattle.std.proofs.Common.{◌≡◌, rules, sym, subst}
use Rattle.mcs_codec.specs.declared.versions.Version.TheVariants.{Two}
use Rattle.mcs_session.specs.Invariant.{IsRecorded}
use Rattle.mcs_session.proofs.Files.{recorded_with_only_snapshot}
use Rattle.mcs_session.proofs.session.start_session.Goals as goal

pub invariant_of-result : goal.invariant_of-result
invariant_of-result g c =
    let is_version_two : c.args.replayed.version ≡ Two = search (rules, c.eq.ensures, c.if-eq.true) in
    record { ready = c.requires.ready; recorded = λ alive honest. c.requires.recorded is_version_two honest }

pub invariant_of-result-in-Ok : goal.invariant_of-result-in-Ok
invariant_of-result-in-Ok g c = record {
  ready = c.in-Ok.ensures.ready;
  recorded = λ alive honest.
      let honest_before = c.in-Ok.ensures.counts.honest.0 honest in
      let held_before = c.requires.held honest_before in
      let changes = c.in-Ok.ensures.replaces honest_before held_before.snap held_before.records held_before.holds in
      subst (λ n. IsRecorded (g.D.Disk.state c.checkpoint.new.self.store.disk) n c.args.replayed.bench) (sym c.in-Ok.ensures.used.1) (recorded_with_only_snapshot (g.D.Disk.state c.checkpoint.new.self.store.disk) changes.after.snap c.args.replayed.bench changes.after.spells changes.after.holds changes.durable);
}

pub returns-in-Ok-clause-version_1 : goal.returns-in-Ok-clause-version_1
returns-in-Ok-clause-version_1 g c = λ e honest snap records held.
    let changes = c.in-Ok.ensures.replaces honest snap records held in
    record { leaves = changes.leaves; held = changes.after; durable = changes.durable }

pub returns-in-Err-clause-failed : goal.returns-in-Err-clause-failed
returns-in-Err-clause-failed g c = λ honest snap records held. rw c.into_disk.ensures (c.in-Err.ensures.replaces honest snap records held).leaves

pub returns-then-eq-clause-one_unsynced : goal.returns-then-eq-clause-one_unsynced
returns-then-eq-clause-one_unsynced g c = at_most_one_unsynced_without_calls _
