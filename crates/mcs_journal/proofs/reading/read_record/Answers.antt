use Rattle.mcs_disk.specs.Changes.{ReadsOnly}
use Rattle.mcs_disk.proofs.StretchComposition.{bytes_unchanged_without_new_image, reads_only_in_two_stretches, reads_only_of_equivalent_failure}
use Rattle.mcs_journal.specs.Calls.{AreReads}
use Rattle.mcs_journal.proofs.ReadCalls.{holds_on_error, are_reads_after_failed_read, are_reads_after_read_calls, read_calls_add_up}
use Rattle.std.proofs.Common.{rules, ◌≡◌, ◌+◌, ◌*◌, ◌++◌, ℕ, length, take, drop, get_or, refl, ◌∙◌, ap, arith}
use Rattle.std.proofs.lemmas.List.{take_at}
use Rattle.mcs_disk.specs.Disk.{part, bytes_of}
use Rattle.mcs_journal.proofs.NextRecord.{record_at_if_length_is_valid, no_record_at_if_length_is_invalid}
use Rattle.mcs_journal.proofs.reading.read_record.Goals as goal
use Rattle.mcs_journal.proofs.reading.read_record.Goals.{then-len-eq0-via-then-len-eq0, then-len-eq0-via-else-len-eq0+then-len-gt-MAX_RECORD_SIZE, then-len-eq0-via-else-len-eq0+else-len-gt-MAX_RECORD_SIZE+then-room-len}

pub returns-then-len-eq0-clause-damaged : goal.returns-then-len-eq0-clause-damaged
returns-then-len-eq0-clause-damaged g c = λ h is_damaged.
    let f = bytes_of (g.D.Disk.state c.args.disk.now) in
    let commit_byte = c.in_ok-read_at.ensures.read_bytes h in
    let first = c.read_at.ensures.reads.adds_no_image in
    let prefix = c.in_ok-read_at-2.ensures.read_bytes (c.read_at.ensures.reads.counts.honest.1 h) ∙ ap (part (c.args.at + 1) 2) (bytes_unchanged_without_new_image _ _ first) in
    no_record_at_if_length_is_invalid f c.args.at c.args.room _ _ _ commit_byte (search rules) prefix refl (λ some few fits. elim c.then-len-eq0.branch [
      | then-len-eq0-via-then-len-eq0 w ↦ omega arith
      | then-len-eq0-via-else-len-eq0+then-len-gt-MAX_RECORD_SIZE w ↦ omega arith
      | then-len-eq0-via-else-len-eq0+else-len-gt-MAX_RECORD_SIZE+then-room-len w ↦ omega arith
    ])

pub returns-clause-next : goal.returns-clause-next
returns-clause-next g c = λ h.
    let f = bytes_of (g.D.Disk.state c.args.disk.now) in
    let commit_byte = c.in_ok-read_at.ensures.read_bytes h in
    let first = c.read_at.ensures.reads.adds_no_image in
    let h1 = c.read_at.ensures.reads.counts.honest.1 h in
    let second = c.read_at-2.ensures.reads.adds_no_image in
    let h2 = c.read_at-2.ensures.reads.counts.honest.1 h1 in
    let prefix = c.in_ok-read_at-2.ensures.read_bytes h1 ∙ ap (part (c.args.at + 1) 2) (bytes_unchanged_without_new_image _ _ first) in
    let payload = c.in_ok-read_at-3.ensures.read_bytes h2 in
    let n : ℕ = get_or c.read_at-2.new.into 0 0 * 256 + get_or c.read_at-2.new.into 1 0 in
    let long : length c.read_at-3.new.into ≡ c.in_ok-bytes.bytes.len = c.read_at-3.auto.into ∙ c.deref_mut.ensures.len in
    let count : c.in_ok-bytes.bytes.len ≡ n = c.in_ok-bytes.ensures.len in
    let is_r : take c.in_ok-bytes.bytes.len (c.read_at-3.new.into ++ drop (length c.read_at-3.new.into) c.in_ok-bytes.bytes.items) ≡ c.read_at-3.new.into = take_at c.read_at-3.new.into _ _ long in
    let same : bytes_of (g.D.Disk.state c.read_at-2.new.disk) ≡ f = bytes_unchanged_without_new_image _ _ second ∙ bytes_unchanged_without_new_image _ _ first in
    let given : c.read_at-3.new.into ≡ part (c.args.at + 3) n f = payload ∙ ap (λ (k : ℕ). part (c.args.at + 3) k (bytes_of (g.D.Disk.state c.read_at-2.new.disk))) (c.deref_mut.ensures.len ∙ count) ∙ ap (part (c.args.at + 3) n) same in
    record_at_if_length_is_valid f c.args.at n c.read_at.new.into c.read_at-2.new.into _ commit_byte (search rules) (search rules) prefix (search rules) (search rules) refl (is_r ∙ given) (ap length is_r ∙ long ∙ count) (omega arith) (omega arith)

pub returns-then-len-eq0-clause-error_calls : goal.returns-then-len-eq0-clause-error_calls
returns-then-len-eq0-clause-error_calls g c = record { count = 2; all = read_calls_add_up 1 1 _ _ _ c.in_ok-read_at.ensures.calls.all c.in_ok-read_at-2.ensures.calls.all }

pub returns-in_err-bytes-clause-error_calls : goal.returns-in_err-bytes-clause-error_calls
returns-in_err-bytes-clause-error_calls g c =
    let two : AreReads (g.D.Disk.state c.args.disk.now).calls (g.D.Disk.state c.read_at-2.new.disk).calls =
    record { count = 2; all = read_calls_add_up 1 1 _ _ _ c.in_ok-read_at.ensures.calls.all c.in_ok-read_at-2.ensures.calls.all } in
    holds_on_error _ two

pub returns-in_err-read_at-3-clause-error_calls : goal.returns-in_err-read_at-3-clause-error_calls
returns-in_err-read_at-3-clause-error_calls g c =
    holds_on_error _ (are_reads_after_read_calls 2 _ _ _ (read_calls_add_up 1 1 _ _ _ c.in_ok-read_at.ensures.calls.all c.in_ok-read_at-2.ensures.calls.all) (are_reads_after_failed_read _ _ _ c.in_err-read_at-3.ensures.calls))

pub returns-then-len-eq0-clause-reads : goal.returns-then-len-eq0-clause-reads
returns-then-len-eq0-clause-reads g c = reads_only_in_two_stretches _ (g.D.Disk.state c.read_at.new.disk) _ _ _ (λ failed. cc) c.in_ok-read_at.ensures.reads (search rules)

pub returns-in_err-bytes-clause-reads : goal.returns-in_err-bytes-clause-reads
returns-in_err-bytes-clause-reads g c = reads_only_in_two_stretches _ (g.D.Disk.state c.read_at.new.disk) _ _ _ (λ failed. cc) c.in_ok-read_at.ensures.reads (search rules)

pub returns-in_err-read_at-3-clause-reads : goal.returns-in_err-read_at-3-clause-reads
returns-in_err-read_at-3-clause-reads g c =
    let second : ReadsOnly (g.D.Disk.state c.read_at.new.disk) (g.D.Disk.state c.read_at-2.new.disk) ⊥ = reads_only_of_equivalent_failure _ _ _ _ (λ failed. cc) (λ no. absurd no) c.in_ok-read_at-2.ensures.reads in
    let two = reads_only_in_two_stretches _ _ _ _ ⊥ (λ failed. cc) c.in_ok-read_at.ensures.reads second in
    reads_only_in_two_stretches _ (g.D.Disk.state c.read_at-2.new.disk) _ ⊥ _ (λ no. no) two (search rules)

pub returns-clause-reads : goal.returns-clause-reads
returns-clause-reads g c =
    let second : ReadsOnly (g.D.Disk.state c.read_at.new.disk) (g.D.Disk.state c.read_at-2.new.disk) ⊥ = reads_only_of_equivalent_failure _ _ _ _ (λ failed. cc) (λ no. absurd no) c.in_ok-read_at-2.ensures.reads in
    let two = reads_only_in_two_stretches _ _ _ _ ⊥ (λ failed. cc) c.in_ok-read_at.ensures.reads second in
    reads_only_in_two_stretches _ (g.D.Disk.state c.read_at-2.new.disk) _ ⊥ _ (λ no. no) two (search rules)
