use Rattle.std.proofs.Common.{rules}
use Rattle.mcs_disk.proofs.StretchComposition.{reads_only_in_two_stretches}
use Rattle.mcs_journal.proofs.ReadCalls.{holds_on_error, are_reads_after_failed_read, are_reads_after_read_calls}
use Rattle.mcs_journal.proofs.reading.read_snapshot.Goals as goal

pub returns-in_err-read_at-2-clause-error_calls : goal.returns-in_err-read_at-2-clause-error_calls
returns-in_err-read_at-2-clause-error_calls g c = holds_on_error _ (are_reads_after_read_calls 1 _ _ _ c.in_ok-read_at.ensures.calls.all (are_reads_after_failed_read _ _ _ c.in_err-read_at-2.ensures.calls))

pub returns-clause-reads : goal.returns-clause-reads
returns-clause-reads g c = reads_only_in_two_stretches _ (g.D.Disk.state c.read_at.new.disk) _ _ _ (λ failed. cc) c.in_ok-read_at.ensures.reads (search rules)
