use Rattle.mcs_disk.proofs.WrittenBytes.{bytes_unchanged_by_failed_write}
use Rattle.mcs_host.proofs.host_disk.HostDiskDisk.write.Goals as goal

pub invariant_of-self-clause-bytes_match_calls : goal.invariant_of-self-clause-bytes_match_calls
invariant_of-self-clause-bytes_match_calls g c = bytes_unchanged_by_failed_write _ _ c.args.at c.args.from.now _ c.note.ensures c.args.self.now.bytes_match_calls
