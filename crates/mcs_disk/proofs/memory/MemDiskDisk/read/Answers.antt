use Rattle.std.proofs.Common.{rules}
use Rattle.mcs_disk.proofs.memory.MemDiskDisk.read.Goals as goal

pub returns-clause-honest : goal.returns-clause-honest
returns-clause-honest c = search rules
