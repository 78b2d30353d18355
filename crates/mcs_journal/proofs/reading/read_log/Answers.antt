use Rattle.mcs_disk.proofs.CallLaws.{length-bytes_of}
use Rattle.mcs_journal.proofs.ReadCalls.{holds_on_error, are_reads_after_read_calls, read_calls_add_up}
use Rattle.mcs_journal.specs.Calls.{AreReads, read_calls}
use Rattle.std.proofs.Common.{rules, ◌≡◌, ◌≢◌, ◌≤◌, ◌+◌, ◌*◌, ◌-◌, List, [], ◌∷◌, ◌++◌, ℕ, length, length-append, sym, ◌∙◌, ap, subst, arith, IsErrOf, get_or}
use Rattle.mcs_journal.specs.declared.fault.StoreFault.TheVariants.{Damaged}
use Rattle.mcs_disk.specs.Disk.{part, bytes_of}
use Rattle.mcs_journal.specs.Writing.{IsRecordAt, HasNoRecordAt}
use Rattle.mcs_disk.proofs.StretchComposition.{reads_only_of_equivalent_failure, reads_only_in_two_stretches, bytes_unchanged_without_new_image}
use Rattle.mcs_journal.proofs.ReadingLog.{IsPrefix, prefix_with_next_record, log_if_prefix_ends, no_log}
use Rattle.mcs_journal.proofs.reading.read_log.Goals as goal

pub returns-in_err-record-clause-reads : goal.returns-in_err-record-clause-reads
returns-in_err-record-clause-reads g c = reads_only_in_two_stretches _ (g.D.Disk.state c.loop-records.disk) _ ⊥ _ (λ no. no) c.loop-records.invariant.reads (search rules)

pub returns-in_err-push-clause-reads : goal.returns-in_err-push-clause-reads
returns-in_err-push-clause-reads g c = reads_only_in_two_stretches _ (g.D.Disk.state c.loop-records.disk) _ ⊥ _ (λ no. no) c.loop-records.invariant.reads (search rules)

pub returns-clause-reads : goal.returns-clause-reads
returns-clause-reads g c = reads_only_in_two_stretches _ _ _ ⊥ _ (λ no. no) c.loop-records.invariant.reads (reads_only_of_equivalent_failure _ _ _ _ (λ failed. cc) (λ failed. cc) c.in_ok-record.ensures.reads)

pub returns-clause-found : goal.returns-clause-found
returns-clause-found g c = λ h.
    let so_far = c.loop-records.invariant.walked h in
    let same = bytes_unchanged_without_new_image _ _ c.loop-records.invariant.reads.adds_no_image in
    let not_committed = c.in_ok-record.ensures.ends_log (c.loop-records.invariant.reads.counts.honest.1 h) in
    let not_one : get_or (bytes_of (g.D.Disk.state c.loop-records.disk)) (c.args.at + c.loop-records.used) 0 ≢ 1 = search rules in
    (log_if_prefix_ends (bytes_of (g.D.Disk.state c.args.disk.now)) c.args.at (omega (arith, length-bytes_of (g.D.Disk.state c.args.disk.now), c.requires.inside)) _ _ so_far (λ one. not_one (ap (λ (b : List ℕ). get_or b (c.args.at + c.loop-records.used) 0) same ∙ one)) (omega arith), so_far.count)

pub returns-in_err-record-clause-damaged : goal.returns-in_err-record-clause-damaged
returns-in_err-record-clause-damaged g c = λ h damaged records is_log.
    let so_far = c.loop-records.invariant.walked h in
    let same = bytes_unchanged_without_new_image _ _ c.loop-records.invariant.reads.adds_no_image in
    let is_damaged : IsErrOf c.read_record.result Damaged = search rules in
    let no_record = c.read_record.ensures.damaged (c.loop-records.invariant.reads.counts.honest.1 h) is_damaged in
    no_log (bytes_of (g.D.Disk.state c.args.disk.now)) c.args.at (omega (arith, length-bytes_of (g.D.Disk.state c.args.disk.now), c.requires.inside)) _ _ so_far (omega arith) (subst (λ (b : List ℕ). HasNoRecordAt b (c.args.at + c.loop-records.used) (65536 - c.loop-records.used)) same no_record) records is_log

pub loop-records-preserved : goal.loop-records-preserved
loop-records-preserved g c = record {
  reads = reads_only_in_two_stretches _ _ _ ⊥ _ (λ no. no) c.loop-records.invariant.reads (reads_only_of_equivalent_failure _ _ _ _ (λ failed. cc) (λ no. absurd no) c.in_ok-record.ensures.reads);
  within = omega (arith, room, long, c.loop-records.invariant.within);
  calls = read_calls_add_up (3 * length c.loop-records.records.items) 3 _ _ _ c.loop-records.invariant.calls (rw c.in-Some.is at c.in_ok-record.ensures.record_calls)
      ∙ ap (λ (n : ℕ). read_calls n ++ (g.D.Disk.state c.args.disk.now).calls) (omega (arith, length-append c.loop-records.records.items (c.in-Some.record ∷ []), ap length c.in_ok-push.ensures.items));
  walked = λ h.
      let same = bytes_unchanged_without_new_image _ _ c.loop-records.invariant.reads.adds_no_image in
      let next = rw c.in-Some.is at c.in_ok-record.ensures.next (c.loop-records.invariant.reads.counts.honest.1 h) in
      let more = prefix_with_next_record (bytes_of (g.D.Disk.state c.args.disk.now)) c.args.at (omega (arith, length-bytes_of (g.D.Disk.state c.args.disk.now), c.requires.inside)) c.loop-records.records.items c.loop-records.used c.in-Some.record (c.loop-records.invariant.walked h)
      (subst (λ (b : List ℕ). IsRecordAt b (c.args.at + c.loop-records.used) c.in-Some.record) same next) room in
      let log = part c.args.at 65536 (bytes_of (g.D.Disk.state c.args.disk.now)) in
      let sized = subst (λ (n : ℕ). IsPrefix (c.loop-records.records.items ++ c.in-Some.record ∷ []) (c.loop-records.used + (n + 3)) log) (sym long) more in
      subst (λ (rs : List (List ℕ)). IsPrefix rs (c.loop-records.used + (length c.bytes.result.now + 3)) log) (sym c.in_ok-push.ensures.items) sized;
}
  where
    room : length c.in-Some.record + 4 ≤ 65536 - c.loop-records.used
    room = rw c.in-Some.is at c.in_ok-record.ensures.record_fits

    long : length c.bytes.result.now ≡ length c.in-Some.record
    long = ap length c.bytes.ensures

pub returns-in_err-record-clause-error_calls : goal.returns-in_err-record-clause-error_calls
returns-in_err-record-clause-error_calls g c = holds_on_error _ (are_reads_after_read_calls _ _ _ _ c.loop-records.invariant.calls c.in_err-record.ensures.error_calls)

pub returns-in_err-push-clause-error_calls : goal.returns-in_err-push-clause-error_calls
returns-in_err-push-clause-error_calls g c =
    let n = 3 * length c.loop-records.records.items in
    let some : AreReads (g.D.Disk.state c.args.disk.now).calls (g.D.Disk.state c.read_record.new.disk).calls =
    record { count = 3 + n; all = read_calls_add_up n 3 _ _ _ c.loop-records.invariant.calls (rw c.in-Some.is at c.in_ok-record.ensures.record_calls) } in
    holds_on_error _ some

pub returns-clause-calls : goal.returns-clause-calls
returns-clause-calls g c =
    let last : (g.D.Disk.state c.read_record.new.disk).calls ≡ read_calls 1 ++ (g.D.Disk.state c.loop-records.disk).calls = search rules in
    read_calls_add_up (3 * length c.loop-records.records.items) 1 _ _ _ c.loop-records.invariant.calls last
