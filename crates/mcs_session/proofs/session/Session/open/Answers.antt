use Rattle.std.proofs.Common.{rules}
use Rattle.mcs_disk.proofs.CallSequences.{at_most_one_unsynced_without_calls, at_most_one_unsynced_in_both}
use Rattle.mcs_disk.proofs.StretchComposition.{counts_fault_of_two_stretches}
use Rattle.mcs_session.proofs.Files.{fails_during_migration_if_version_1, opened_store_keeps_contents, failed_open_effect_if_no_image_added, migrates_session_of_either_version, opens_session_of_either_version, recorded_after_open_if_version_2, device_error_if_migration_fails, damaged_if_no_state_is_represented, session_error_from_store_error}
use Rattle.mcs_session.proofs.session.Session.open.Goals as goal

pub start_session-requires-clause-recorded : goal.start_session-requires-clause-recorded
start_session-requires-clause-recorded g c = λ last honest.
    let honest_before = c.in-Ok-open.ensures.counts.honest.0 honest in
    recorded_after_open_if_version_2 _ _ _ _ _ _ _ last (c.in-Ok-open.ensures.opened honest_before) (rw (c.bytes.ensures, c.in-Ok-Some.field-0-is) at c.in-Ok-Some.ensures.some)

pub start_session-requires-clause-held : goal.start_session-requires-clause-held
start_session-requires-clause-held g c = λ honest.
    let honest_before = c.in-Ok-open.ensures.counts.honest.0 honest in
    record { snap = _; records = _; holds = opened_store_keeps_contents _ _ _ _ (c.in-Ok-open.ensures.opened honest_before) }

pub returns-in-Ok-start_session-clause-counts : goal.returns-in-Ok-start_session-clause-counts
returns-in-Ok-start_session-clause-counts g c = counts_fault_of_two_stretches _ _ _ ⊥ ⊥ (λ no. no) c.in-Ok-open.ensures.counts c.in-Ok-start_session.ensures.counts

pub returns-in-Ok-start_session-clause-opened : goal.returns-in-Ok-start_session-clause-opened
returns-in-Ok-start_session-clause-opened g c = λ honest.
    let opened = c.in-Ok-open.ensures.opened honest in
    let honest_after = c.in-Ok-open.ensures.counts.honest.1 honest in
    let replayed = rw (c.bytes.ensures, c.in-Ok-Some.field-0-is) at c.in-Ok-Some.ensures.some in
    rw c.in-Ok-start_session.ensures.open.1 (
    opens_session_of_either_version _ _ _ _ _ _ _ _ opened replayed
    (λ last o. rw (c.in-Ok-start_session.ensures.same last) o)
    (λ version_1. c.in-Ok-start_session.ensures.version_1 version_1 honest_after _ _ (opened_store_keeps_contents _ _ _ _ opened)))

pub returns-in-Ok-start_session-clause-migrated : goal.returns-in-Ok-start_session-clause-migrated
returns-in-Ok-start_session-clause-migrated g c = λ honest.
    let opened = c.in-Ok-open.ensures.opened honest in
    let honest_after = c.in-Ok-open.ensures.counts.honest.1 honest in
    let replayed = rw (c.bytes.ensures, c.in-Ok-Some.field-0-is) at c.in-Ok-Some.ensures.some in
    rw c.in-Ok-start_session.ensures.open.1 (
    migrates_session_of_either_version _ _ _ _ _ _ _ _ opened replayed
    (λ last o. rw (c.in-Ok-start_session.ensures.same last) o)
    (λ version_1. c.in-Ok-start_session.ensures.version_1 version_1 honest_after _ _ (opened_store_keeps_contents _ _ _ _ opened)))

pub returns-in-Ok-Some-clause-refused : goal.returns-in-Ok-Some-clause-refused
returns-in-Ok-Some-clause-refused g c = λ honest.
    let opened = c.in-Ok-open.ensures.opened honest in
    let honest_after = c.in-Ok-open.ensures.counts.honest.1 honest in
    let replayed = rw (c.bytes.ensures, c.in-Ok-Some.field-0-is) at c.in-Ok-Some.ensures.some in
    let refusal = c.in-Err-start_session.ensures.refused in
    device_error_if_migration_fails _ _ _ refusal.0 (fails_during_migration_if_version_1 _ _ _ _ _ _ _ _ refusal.1.0 opened replayed
    (c.in-Err-start_session.ensures.failed honest_after _ _ (opened_store_keeps_contents _ _ _ _ opened)))

pub returns-in-Ok-None-clause-error_counts_fault : goal.returns-in-Ok-None-clause-error_counts_fault
returns-in-Ok-None-clause-error_counts_fault g c = rw c.into_disk.ensures (record {
  start = c.in-Ok-open.ensures.counts.start;
  honest = c.in-Ok-open.ensures.counts.honest;
  fault = λ is. absurd (cc is);
  no_fault = λ no. c.in-Ok-open.ensures.counts.no_fault (λ none. none);
})

pub returns-in-Ok-None-clause-refused : goal.returns-in-Ok-None-clause-refused
returns-in-Ok-None-clause-refused g c = λ honest. rw c.into_disk.ensures
    (damaged_if_no_state_is_represented _ _ _ _ (c.in-Ok-open.ensures.opened honest) (rw (c.bytes.ensures, c.in-Ok-None.field-0-is) at c.in-Ok-None.ensures.none))

pub returns-in-Ok-open-clause-error_counts_fault : goal.returns-in-Ok-open-clause-error_counts_fault
returns-in-Ok-open-clause-error_counts_fault g c = rw c.into_disk-in-Err-replay.ensures (record {
  start = c.in-Ok-open.ensures.counts.start;
  honest = c.in-Ok-open.ensures.counts.honest;
  fault = λ is. absurd (cc is);
  no_fault = λ no. c.in-Ok-open.ensures.counts.no_fault (λ none. none);
})

pub returns-clause-refused : goal.returns-clause-refused
returns-clause-refused g c = λ honest. let h = c.in-Err.ensures.refused honest in (session_error_from_store_error _ _ h.0, failed_open_effect_if_no_image_added c.in-Err.refused.0 _ _ h.1)

pub returns-in_default-clause-error_one_unsynced : goal.returns-in_default-clause-error_one_unsynced
returns-in_default-clause-error_one_unsynced g c = at_most_one_unsynced_without_calls _

pub returns-in-Ok-start_session-clause-one_unsynced : goal.returns-in-Ok-start_session-clause-one_unsynced
returns-in-Ok-start_session-clause-one_unsynced g c = at_most_one_unsynced_in_both _ _ _ c.in-Ok-open.ensures.one_unsynced c.in-Ok-start_session.ensures.one_unsynced

pub returns-in-Ok-Some-clause-error_one_unsynced : goal.returns-in-Ok-Some-clause-error_one_unsynced
returns-in-Ok-Some-clause-error_one_unsynced g c = at_most_one_unsynced_in_both _ _ _ c.in-Ok-open.ensures.one_unsynced c.in-Err-start_session.ensures.error_one_unsynced

pub returns-in-Ok-Some-clause-error_counts_fault : goal.returns-in-Ok-Some-clause-error_counts_fault
returns-in-Ok-Some-clause-error_counts_fault g c = search rules

pub returns-in-Ok-None-clause-writes_nothing : goal.returns-in-Ok-None-clause-writes_nothing
returns-in-Ok-None-clause-writes_nothing g c = search rules

pub returns-in-Ok-None-clause-error_one_unsynced : goal.returns-in-Ok-None-clause-error_one_unsynced
returns-in-Ok-None-clause-error_one_unsynced g c = search rules

pub returns-in-Ok-open-clause-writes_nothing : goal.returns-in-Ok-open-clause-writes_nothing
returns-in-Ok-open-clause-writes_nothing g c = search rules

pub returns-in-Ok-open-clause-error_one_unsynced : goal.returns-in-Ok-open-clause-error_one_unsynced
returns-in-Ok-open-clause-error_one_unsynced g c = search rules

pub returns-in-Ok-open-clause-refused : goal.returns-in-Ok-open-clause-refused
returns-in-Ok-open-clause-refused g c = search rules

pub returns-clause-error_counts_fault : goal.returns-clause-error_counts_fault
returns-clause-error_counts_fault g c = search rules

pub returns-clause-writes_nothing : goal.returns-clause-writes_nothing
returns-clause-writes_nothing g c = search rules

pub returns-clause-wrong_size : goal.returns-clause-wrong_size
returns-clause-wrong_size g c = search rules

pub returns-clause-error_one_unsynced : goal.returns-clause-error_one_unsynced
returns-clause-error_one_unsynced g c = search rules
