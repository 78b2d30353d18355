use Rattle.mcs_disk.specs.Changes.{ReadsOnly}
use Rattle.mcs_disk.proofs.CallLaws.{length-bytes_of}
use Rattle.mcs_disk.proofs.StretchComposition.{bytes_unchanged_without_new_image, reads_only_after_sync, durable_without_new_image, adds_no_image_in_two_stretches, reads_only_in_two_stretches, reads_only_of_equivalent_failure, durable_after_sync}
use Rattle.mcs_journal.proofs.ReadCalls.{holds_on_error, are_reads_after_read_calls, read_calls_add_up}
use Rattle.mcs_disk.specs.Calls.{DiskCall, Synced}
use Rattle.mcs_journal.specs.Calls.{AreReads, read_calls}
use Rattle.std.proofs.Common.{rules, ◌≡◌, inr, ◌+◌, ◌*◌, List, [], ◌∷◌, ◌++◌, ℕ, length, append_assoc, sym, ◌∙◌, ap, subst, arith, IsErrOf}
use Rattle.mcs_disk.specs.Disk.{part, bytes_of, size_of}
use Rattle.mcs_journal.specs.File.{Holds, IsLog, start_of}
use Rattle.mcs_journal.specs.Writing.{IsHeader, IsSnapshot}
use Rattle.mcs_journal.specs.declared.slot.Slot.{Slot}
use Rattle.mcs_journal.specs.declared.fault.StoreFault.TheVariants.{Damaged}
use Rattle.mcs_journal.proofs.reading.read_contents.Goals as goal

-- a file with a valid header holds the snapshot and the records of the slot that the header selects
file_holds_read_contents : (f snap : List ℕ) (slot : Slot) (records : List (List ℕ)) → length f ≡ 163856 → IsHeader f slot → IsSnapshot f (start_of slot) snap → IsLog records (part (start_of slot + 16384) 65536 f) → Holds f snap records
file_holds_read_contents f snap slot records long header is_snap log = record {
  size = long;
  name = header.name;
  zeros = header.zeros;
  within_limit = is_snap.within_limit;
  snap_length = ap (λ (s : Slot). part (start_of s) 4 f) header.active ∙ is_snap.snap_length;
  snap_bytes = ap (λ (s : Slot). part (start_of s + 4) (length snap) f) header.active ∙ is_snap.snap_bytes;
  log = subst (λ (s : Slot). IsLog records (part (start_of s + 16384) 65536 f)) (sym header.active) log;
}

pub returns-clause-holds : goal.returns-clause-holds
returns-clause-holds g c = λ h.
    let h1 = c.sync.ensures.call.honest.1 h in
    let h2 = c.read_header.ensures.reads.counts.honest.1 h1 in
    let h3 = c.read_snapshot.ensures.reads.counts.honest.1 h2 in
    let same1 = bytes_unchanged_without_new_image _ _ (reads_only_after_sync _ _ _ c.sync.ensures.call c.sync.ensures.lists_call).adds_no_image in
    let same2 = bytes_unchanged_without_new_image _ _ c.read_header.ensures.reads.adds_no_image ∙ same1 in
    let same3 = bytes_unchanged_without_new_image _ _ c.read_snapshot.ensures.reads.adds_no_image ∙ same2 in
    let found = c.in_ok-log.ensures.found h3 in
    let size : size_of (g.D.Disk.state c.args.disk.now) ≡ 163856 = search rules in
    file_holds_read_contents _ _ c.in_ok-slot.slot _ (length-bytes_of (g.D.Disk.state c.args.disk.now) ∙ size)
    (subst (λ (f : List ℕ). IsHeader f c.in_ok-slot.slot) same1 (c.in_ok-slot.ensures.header h1))
    (subst (λ (s : ℕ). IsSnapshot (bytes_of (g.D.Disk.state c.args.disk.now)) s c.in_ok-snap.snap) c.start-start.ensures (subst (λ (f : List ℕ). IsSnapshot f c.start-start.result c.in_ok-snap.snap) same2 (c.in_ok-snap.ensures.snap h2)))
    (subst (λ (s : ℕ). IsLog c.in_ok-log.log.records.items (part (s + 16384) 65536 (bytes_of (g.D.Disk.state c.args.disk.now)))) c.start-start.ensures (subst (λ (f : List ℕ). IsLog c.in_ok-log.log.records.items (part (c.start-start.result + 16384) 65536 f)) same3 found.0))

pub returns-in_err-log-clause-damaged : goal.returns-in_err-log-clause-damaged
returns-in_err-log-clause-damaged g c = λ h is_damaged snap records held.
    let h1 = c.sync.ensures.call.honest.1 h in
    let h2 = c.read_header.ensures.reads.counts.honest.1 h1 in
    let h3 = c.read_snapshot.ensures.reads.counts.honest.1 h2 in
    let same1 = bytes_unchanged_without_new_image _ _ (reads_only_after_sync _ _ _ c.sync.ensures.call c.sync.ensures.lists_call).adds_no_image in
    let same2 = bytes_unchanged_without_new_image _ _ c.read_header.ensures.reads.adds_no_image ∙ same1 in
    let same3 = bytes_unchanged_without_new_image _ _ c.read_snapshot.ensures.reads.adds_no_image ∙ same2 in
    let header = subst (λ (f : List ℕ). IsHeader f c.in_ok-slot.slot) same1 (c.in_ok-slot.ensures.header h1) in
    let damaged : IsErrOf c.read_log.result Damaged = search rules in
    let log = subst (λ (s : ℕ). IsLog records (part (s + 16384) 65536 (bytes_of (g.D.Disk.state c.args.disk.now)))) (ap start_of header.active ∙ sym c.start-start.ensures) held.log in
    c.read_log.ensures.damaged h3 damaged records (subst (λ (f : List ℕ). IsLog records (part (c.start-start.result + 16384) 65536 f)) (sym same3) log)

pub returns-in_err-snap-clause-error_calls : goal.returns-in_err-snap-clause-error_calls
returns-in_err-snap-clause-error_calls g c =
    let new = (g.D.Disk.state c.read_snapshot.new.disk).calls in
    holds_on_error _ (inr (subst (λ (l : List DiskCall). AreReads l new) c.in_ok-sync.ensures.lists_call.all (are_reads_after_read_calls 1 _ _ _ c.in_ok-slot.ensures.calls c.in_err-snap.ensures.error_calls)))

pub returns-in_err-log-clause-error_calls : goal.returns-in_err-log-clause-error_calls
returns-in_err-log-clause-error_calls g c =
    let new = (g.D.Disk.state c.read_log.new.disk).calls in
    holds_on_error _ (inr (subst (λ (l : List DiskCall). AreReads l new) c.in_ok-sync.ensures.lists_call.all
    (are_reads_after_read_calls 3 _ _ _ (read_calls_add_up 1 2 _ _ _ c.in_ok-slot.ensures.calls c.in_ok-snap.ensures.calls) c.in_err-log.ensures.error_calls)))

pub returns-clause-calls : goal.returns-clause-calls
returns-clause-calls g c =
    let n = length c.in_ok-log.log.records.items in
    let old = (g.D.Disk.state c.args.disk.now).calls in
    read_calls_add_up 3 (1 + 3 * n) _ _ _ (read_calls_add_up 1 2 _ _ _ c.in_ok-slot.ensures.calls c.in_ok-snap.ensures.calls) c.in_ok-log.ensures.calls
    ∙ (λ i. read_calls (four n i) ++ c.in_ok-sync.ensures.lists_call.all i)
    ∙ sym (append_assoc (read_calls (4 + 3 * n)) (Synced ∷ []) old)
  where
    four : (n : ℕ) → 1 + 3 * n + 3 ≡ 4 + 3 * n
    four n = omega arith

pub returns-in_err-slot-clause-reads : goal.returns-in_err-slot-clause-reads
returns-in_err-slot-clause-reads g c =
    reads_only_in_two_stretches _ (g.D.Disk.state c.sync.new.self) _ _ _ (λ failed. cc) (reads_only_after_sync _ _ _ c.in_ok-sync.ensures.call c.in_ok-sync.ensures.lists_call) (search rules)

pub returns-in_err-snap-clause-reads : goal.returns-in_err-snap-clause-reads
returns-in_err-snap-clause-reads g c =
    let first = reads_only_after_sync _ _ _ c.in_ok-sync.ensures.call c.in_ok-sync.ensures.lists_call in
    let second : ReadsOnly (g.D.Disk.state c.sync.new.self) (g.D.Disk.state c.read_header.new.disk) ⊥ = reads_only_of_equivalent_failure _ _ _ _ (λ failed. cc) (λ no. absurd no) c.in_ok-slot.ensures.reads in
    reads_only_in_two_stretches _ (g.D.Disk.state c.read_header.new.disk) _ ⊥ _ (λ no. no) (reads_only_in_two_stretches _ _ _ _ ⊥ (λ failed. cc) first second) (search rules)

pub returns-in_err-log-clause-reads : goal.returns-in_err-log-clause-reads
returns-in_err-log-clause-reads g c =
    let first = reads_only_after_sync _ _ _ c.in_ok-sync.ensures.call c.in_ok-sync.ensures.lists_call in
    let second : ReadsOnly (g.D.Disk.state c.sync.new.self) (g.D.Disk.state c.read_header.new.disk) ⊥ = reads_only_of_equivalent_failure _ _ _ _ (λ failed. cc) (λ no. absurd no) c.in_ok-slot.ensures.reads in
    let third : ReadsOnly (g.D.Disk.state c.read_header.new.disk) (g.D.Disk.state c.read_snapshot.new.disk) ⊥ = reads_only_of_equivalent_failure _ _ _ _ (λ failed. cc) (λ no. absurd no) c.in_ok-snap.ensures.reads in
    reads_only_in_two_stretches _ (g.D.Disk.state c.read_snapshot.new.disk) _ ⊥ _ (λ no. no) (reads_only_in_two_stretches _ _ _ ⊥ ⊥ (λ no. no) (reads_only_in_two_stretches _ _ _ _ ⊥ (λ failed. cc) first second) third) (search rules)

pub returns-clause-reads : goal.returns-clause-reads
returns-clause-reads g c =
    let first = reads_only_after_sync _ _ _ c.in_ok-sync.ensures.call c.in_ok-sync.ensures.lists_call in
    let second : ReadsOnly (g.D.Disk.state c.sync.new.self) (g.D.Disk.state c.read_header.new.disk) ⊥ = reads_only_of_equivalent_failure _ _ _ _ (λ failed. cc) (λ no. absurd no) c.in_ok-slot.ensures.reads in
    let third : ReadsOnly (g.D.Disk.state c.read_header.new.disk) (g.D.Disk.state c.read_snapshot.new.disk) ⊥ = reads_only_of_equivalent_failure _ _ _ _ (λ failed. cc) (λ no. absurd no) c.in_ok-snap.ensures.reads in
    reads_only_in_two_stretches _ (g.D.Disk.state c.read_snapshot.new.disk) _ ⊥ _ (λ no. no) (reads_only_in_two_stretches _ _ _ ⊥ ⊥ (λ no. no) (reads_only_in_two_stretches _ _ _ _ ⊥ (λ failed. cc) first second) third) (search rules)

pub returns-clause-durable : goal.returns-clause-durable
returns-clause-durable g c = λ h.
    durable_without_new_image _ _ (adds_no_image_in_two_stretches _ _ _ c.read_header.ensures.reads.adds_no_image (adds_no_image_in_two_stretches _ _ _ c.read_snapshot.ensures.reads.adds_no_image c.read_log.ensures.reads.adds_no_image))
    (durable_after_sync (g.D.Disk.state c.sync.new.self) _ c.in_ok-sync.ensures.lists_call.all)

pub returns-in_err-slot-clause-error_calls : goal.returns-in_err-slot-clause-error_calls
returns-in_err-slot-clause-error_calls g c = search rules
