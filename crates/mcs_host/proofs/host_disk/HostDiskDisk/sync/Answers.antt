use Rattle.std.proofs.Common.{rules}
use Rattle.mcs_host.proofs.host_disk.HostDiskDisk.sync.Goals as goal

pub returns-clause-host_calls : goal.returns-clause-host_calls
returns-clause-host_calls c = search rules
