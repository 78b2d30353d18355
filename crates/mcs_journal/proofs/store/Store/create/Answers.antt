use Rattle.mcs_disk.specs.CallList.{unsynced_writes}
use Rattle.mcs_disk.proofs.CallSequences.{at_most_one_unsynced_without_calls}
use Rattle.mcs_journal.proofs.StoreMethodCalls.{makes_with_area_of_other_ok, makes_with_area_of_other_error, create_at_most_one_unsynced, one_read_if_check_blank_is_ok, failed_create_calls_after_header_fault, refused_create_at_most_one_unsynced}
use Rattle.std.proofs.Common.{inr, [], length, refl, sym, ◌∙◌, ap, arith, Err, length-take, length-append, length-drop}
use Rattle.mcs_disk.proofs.StretchComposition.{counts_fault_of_equivalent_failure, counts_fault_of_two_stretches, adds_no_image_without_calls, is_later_transitive}
use Rattle.mcs_journal.specs.declared.fault.StoreFault.TheVariants.{Device}
use Rattle.mcs_journal.proofs.ErrorResults.{counts_fault_if_device_error, header_fault_is_create_fault, header_fault_is_not_no_memory, create_error_of_header_fault}
use Rattle.mcs_journal.proofs.store.Store.create.Goals as goal

pub returns-then-size-ne-FILE_SIZE-clause-refused : goal.returns-then-size-ne-FILE_SIZE-clause-refused
returns-then-size-ne-FILE_SIZE-clause-refused g c = λ h. (λ blank. c.if-size-ne-FILE_SIZE.true (c.size.ensures ∙ blank.0), adds_no_image_without_calls _)

pub returns-in-Err-check_blank-clause-error_counts_fault : goal.returns-in-Err-check_blank-clause-error_counts_fault
returns-in-Err-check_blank-clause-error_counts_fault g c = counts_fault_if_device_error _ _ _ Device _ c.in-Err-check_blank.is c.check_blank.ensures.reads.counts

pub returns-in-Err-check_blank-clause-refused : goal.returns-in-Err-check_blank-clause-refused
returns-in-Err-check_blank-clause-refused g c = λ h. create_error_of_header_fault _ _ _ c.in-Err-check_blank.ensures.possible_errors c.check_blank.ensures.reads.adds_no_image (λ fault. c.check_blank.ensures.not_blank h (c.in-Err-check_blank.is ∙ ap Err fault))

pub returns-in-Err-check_blank-clause-possible_errors : goal.returns-in-Err-check_blank-clause-possible_errors
returns-in-Err-check_blank-clause-possible_errors g c = header_fault_is_create_fault _ c.in-Err-check_blank.ensures.possible_errors

pub returns-in-Err-check_blank-clause-no_memory : goal.returns-in-Err-check_blank-clause-no_memory
returns-in-Err-check_blank-clause-no_memory g c = λ none. absurd (header_fault_is_not_no_memory _ c.in-Err-check_blank.ensures.possible_errors none)

pub returns-in-Ok-write_first-clause-counts : goal.returns-in-Ok-write_first-clause-counts
returns-in-Ok-write_first-clause-counts g c =
    counts_fault_of_two_stretches _ _ _ _ _ (λ failed. cc) c.in-Ok-check_blank.ensures.reads.counts (counts_fault_of_equivalent_failure _ _ _ _ (λ failed. cc) (λ no. absurd no) c.in-Ok-write_first.ensures.call)

pub returns-in-Ok-write_first-clause-created : goal.returns-in-Ok-write_first-clause-created
returns-in-Ok-write_first-clause-created g c = λ h.
    let mid = c.check_blank.ensures.reads.counts.honest.1 h in
    record {
      blank = c.in-Ok-check_blank.ensures.blank h;
      holds = c.in-Ok-write_first.ensures.written mid;
      durable = c.in-Ok-write_first.ensures.durable mid;
      ticks = omega (arith, c.in-Ok-check_blank.ensures.ticks h, c.in-Ok-write_first.ensures.ticks mid);
      later = is_later_transitive _ _ _ c.check_blank.ensures.reads.adds_no_image.later (c.write_first.ensures.is_later mid);
    }

pub returns-in-Err-write_first-clause-error_counts_fault : goal.returns-in-Err-write_first-clause-error_counts_fault
returns-in-Err-write_first-clause-error_counts_fault g c =
    counts_fault_of_two_stretches _ _ _ _ _ (λ failed. cc) c.in-Ok-check_blank.ensures.reads.counts (counts_fault_of_equivalent_failure _ _ _ _ (λ failed. refl) (λ same. refl) c.in-Err-write_first.ensures.call)

pub returns-in-Err-write_first-clause-refused : goal.returns-in-Err-write_first-clause-refused
returns-in-Err-write_first-clause-refused g c = λ h.
    let mid = c.check_blank.ensures.reads.counts.honest.1 h in
    is_later_transitive _ _ _ c.check_blank.ensures.reads.adds_no_image.later (c.write_first.ensures.is_later mid)

pub invariant_of-result : goal.invariant_of-result
invariant_of-result g c = record {
  disk_size = ap length (c.write_first.ensures.call.start ∙ c.check_blank.ensures.reads.counts.start) ∙ sym c.size.ensures ∙ c.if-size-ne-FILE_SIZE.false;
  within = omega arith;
  room = simp (length-take, length-append, length-drop) (omega (arith, c.as_mut_slice.ensures.len, ap length c.as_mut_slice.ensures.value, c.write_first.ensures.room, c.in-Ok.ensures.len, c.write_first.auto.buffer));
  synced = λ alive. ap unsynced_writes c.in-Ok-write_first.ensures.calls.makes_calls.all;
  intact = λ alive h.
      let mid = c.write_first.ensures.call.honest.0 h in
      record {
        durable = c.in-Ok-write_first.ensures.durable mid;
        active = c.in-Ok-write_first.ensures.selected mid;
        snap = c.args.snap.now;
        records = [];
        holds = c.in-Ok-write_first.ensures.written mid;
        count = refl;
      };
}

pub returns-then-size-ne-FILE_SIZE-clause-error_one_unsynced : goal.returns-then-size-ne-FILE_SIZE-clause-error_one_unsynced
returns-then-size-ne-FILE_SIZE-clause-error_one_unsynced g c = λ synced. at_most_one_unsynced_without_calls _

pub returns-in-Err-clause-error_one_unsynced : goal.returns-in-Err-clause-error_one_unsynced
returns-in-Err-clause-error_one_unsynced g c = λ synced. at_most_one_unsynced_without_calls _

pub returns-in-Err-check_blank-clause-error_calls : goal.returns-in-Err-check_blank-clause-error_calls
returns-in-Err-check_blank-clause-error_calls g c = failed_create_calls_after_header_fault _ _ _ _ _ _ c.in-Err-check_blank.is c.in-Err-check_blank.ensures.possible_errors c.check_blank.ensures.calls

pub returns-in-Err-check_blank-clause-error_one_unsynced : goal.returns-in-Err-check_blank-clause-error_one_unsynced
returns-in-Err-check_blank-clause-error_one_unsynced g c = λ synced. refused_create_at_most_one_unsynced _ synced _ c.args.snap.now _ c.check_blank.result
    (failed_create_calls_after_header_fault _ _ _ _ _ _ c.in-Err-check_blank.is c.in-Err-check_blank.ensures.possible_errors c.check_blank.ensures.calls)

pub returns-in-Ok-write_first-clause-calls : goal.returns-in-Ok-write_first-clause-calls
returns-in-Ok-write_first-clause-calls g c = makes_with_area_of_other_ok _ _ _ _ _ _ _ (one_read_if_check_blank_is_ok _ _ _ _ c.in-Ok-check_blank.ensures.calls) c.in-Ok-write_first.ensures.calls

pub returns-in-Ok-write_first-clause-one_unsynced : goal.returns-in-Ok-write_first-clause-one_unsynced
returns-in-Ok-write_first-clause-one_unsynced g c = λ synced. create_at_most_one_unsynced _ synced _ _ _ (makes_with_area_of_other_ok {U = Unit {0}} {V = Unit {0}} _ _ _ _ _ _ tt (one_read_if_check_blank_is_ok _ _ _ _ c.in-Ok-check_blank.ensures.calls) c.in-Ok-write_first.ensures.calls)

pub returns-in-Err-write_first-clause-error_calls : goal.returns-in-Err-write_first-clause-error_calls
returns-in-Err-write_first-clause-error_calls g c = inr (makes_with_area_of_other_error _ _ _ _ _ _ _ (one_read_if_check_blank_is_ok _ _ _ _ c.in-Ok-check_blank.ensures.calls) c.in-Err-write_first.ensures.calls)

pub returns-in-Err-write_first-clause-error_one_unsynced : goal.returns-in-Err-write_first-clause-error_one_unsynced
returns-in-Err-write_first-clause-error_one_unsynced g c = λ synced. create_at_most_one_unsynced _ synced _ _ _ (makes_with_area_of_other_error {U = Unit {0}} {V = Unit {0}} _ _ _ _ _ _ tt (one_read_if_check_blank_is_ok _ _ _ _ c.in-Ok-check_blank.ensures.calls) c.in-Err-write_first.ensures.calls)
