use Rattle.std.proofs.Common.{rules}
use Rattle.mcs_disk.proofs.fuse.FuseDisk.fail.Goals as goal

pub returns-clause-fault : goal.returns-clause-fault
returns-clause-fault c = search rules
