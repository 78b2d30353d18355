use Rattle.std.proofs.Common.{rules}
use Rattle.mcs_disk.proofs.fuse.FuseDisk.once.Goals as goal

pub returns-clause-fails : goal.returns-clause-fails
returns-clause-fails c = search rules
