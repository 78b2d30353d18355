use Rattle.mcs_disk.proofs.StretchComposition.{reads_only_after_read}
use Rattle.mcs_journal.proofs.reading.read_at.Goals as goal

pub returns-clause-reads : goal.returns-clause-reads
returns-clause-reads g c = reads_only_after_read _ _ _ c.read.ensures.call c.read.ensures.lists_call
