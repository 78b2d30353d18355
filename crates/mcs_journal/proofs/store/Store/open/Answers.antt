use Rattle.mcs_disk.proofs.CallSequences.{at_most_one_unsynced_without_calls}
use Rattle.mcs_journal.proofs.ReadCalls.{property_of_error}
use Rattle.mcs_journal.proofs.StoreMethodCalls.{at_most_one_unsynced_during_open, no_unsynced_write_after_open, at_most_one_unsynced_after_failed_open}
use Rattle.std.proofs.Common.{rules, length, List, ℕ, inl, sym, ◌∙◌, ap, subst, Err}
use Rattle.mcs_disk.proofs.StretchComposition.{adds_no_image_without_calls, bytes_unchanged_without_new_image}
use Rattle.mcs_journal.specs.File.{Holds, slot_of}
use Rattle.mcs_journal.specs.declared.fault.StoreFault.TheVariants.{Device}
use Rattle.mcs_journal.proofs.ErrorResults.{counts_no_fault_if_ok, counts_fault_if_device_error, open_fault_if_not_not_blank, open_error_implies_disk_condition}
use Rattle.mcs_journal.proofs.store.Store.open.Goals as goal

pub returns-then-size-ne-FILE_SIZE-clause-refused : goal.returns-then-size-ne-FILE_SIZE-clause-refused
returns-then-size-ne-FILE_SIZE-clause-refused g c = λ h. (inl (λ same. c.if-size-ne-FILE_SIZE.true (c.size.ensures ∙ same)), adds_no_image_without_calls _)

pub returns-in-Err-read_contents-clause-error_counts_fault : goal.returns-in-Err-read_contents-clause-error_counts_fault
returns-in-Err-read_contents-clause-error_counts_fault g c = counts_fault_if_device_error _ _ _ Device _ c.in-Err-read_contents.is c.read_contents.ensures.reads.counts

pub returns-in-Err-read_contents-clause-refused : goal.returns-in-Err-read_contents-clause-refused
returns-in-Err-read_contents-clause-refused g c = λ h. (
  open_error_implies_disk_condition _ _ (λ fault. c.read_contents.ensures.not_blank (c.in-Err-read_contents.is ∙ ap Err fault))
      (sym c.size.ensures ∙ c.if-size-ne-FILE_SIZE.false)
      (λ fault. c.read_contents.ensures.no_session h (c.in-Err-read_contents.is ∙ ap Err fault))
      (λ fault. c.read_contents.ensures.session h (c.in-Err-read_contents.is ∙ ap Err fault))
      (λ fault. c.read_contents.ensures.damaged h (c.in-Err-read_contents.is ∙ ap Err fault)),
  c.read_contents.ensures.reads.adds_no_image,
)

pub returns-in-Err-read_contents-clause-possible_errors : goal.returns-in-Err-read_contents-clause-possible_errors
returns-in-Err-read_contents-clause-possible_errors g c = open_fault_if_not_not_blank _ (λ fault. c.read_contents.ensures.not_blank (c.in-Err-read_contents.is ∙ ap Err fault))

pub returns-in-Ok-read_contents-clause-counts : goal.returns-in-Ok-read_contents-clause-counts
returns-in-Ok-read_contents-clause-counts g c = counts_no_fault_if_ok _ _ _ Device _ c.in-Ok-read_contents.is c.read_contents.ensures.reads.counts

pub returns-in-Ok-read_contents-clause-opened : goal.returns-in-Ok-read_contents-clause-opened
returns-in-Ok-read_contents-clause-opened g c = λ h. record { holds = c.in-Ok-read_contents.ensures.holds h; adds_no_image = c.read_contents.ensures.reads.adds_no_image; durable = c.in-Ok-read_contents.ensures.durable h }

pub invariant_of-store : goal.invariant_of-store
invariant_of-store g c = record {
  disk_size = ap length c.read_contents.ensures.reads.counts.start ∙ sym c.size.ensures ∙ c.if-size-ne-FILE_SIZE.false;
  within = c.in-Ok-read_contents.ensures.within;
  room = search rules;
  synced = λ live. no_unsynced_write_after_open _ _ _ c.in-Ok-read_contents.ensures.calls;
  intact = λ live h.
      let was_honest = c.read_contents.ensures.reads.counts.honest.0 h in
      let same = bytes_unchanged_without_new_image _ _ c.read_contents.ensures.reads.adds_no_image in
      record {
        durable = c.in-Ok-read_contents.ensures.durable was_honest;
        active = ap slot_of same ∙ c.in-Ok-read_contents.ensures.active was_honest;
        snap = c.in-Ok-read_contents.field-0.snap;
        records = c.in-Ok-read_contents.field-0.log.records.items;
        holds = subst (λ (f : List ℕ). Holds f c.in-Ok-read_contents.field-0.snap c.in-Ok-read_contents.field-0.log.records.items) (sym same) (c.in-Ok-read_contents.ensures.holds was_honest);
        count = c.in-Ok-read_contents.ensures.count was_honest;
      };
}

pub returns-then-size-ne-FILE_SIZE-clause-error_one_unsynced : goal.returns-then-size-ne-FILE_SIZE-clause-error_one_unsynced
returns-then-size-ne-FILE_SIZE-clause-error_one_unsynced g c = at_most_one_unsynced_without_calls _

pub returns-in-Err-clause-error_one_unsynced : goal.returns-in-Err-clause-error_one_unsynced
returns-in-Err-clause-error_one_unsynced g c = at_most_one_unsynced_without_calls _

pub returns-in-Ok-read_contents-clause-one_unsynced : goal.returns-in-Ok-read_contents-clause-one_unsynced
returns-in-Ok-read_contents-clause-one_unsynced g c = at_most_one_unsynced_during_open _ _ _ c.in-Ok-read_contents.ensures.calls

pub returns-in-Err-read_contents-clause-error_calls : goal.returns-in-Err-read_contents-clause-error_calls
returns-in-Err-read_contents-clause-error_calls g c = property_of_error _ _ c.in-Err-read_contents.is c.read_contents.ensures.error_calls

pub returns-in-Err-read_contents-clause-error_one_unsynced : goal.returns-in-Err-read_contents-clause-error_one_unsynced
returns-in-Err-read_contents-clause-error_one_unsynced g c = at_most_one_unsynced_after_failed_open _ _ (property_of_error _ _ c.in-Err-read_contents.is c.read_contents.ensures.error_calls)
