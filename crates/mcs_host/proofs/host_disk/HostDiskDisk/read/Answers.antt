use Rattle.std.proofs.Common.{rules}
use Rattle.mcs_host.proofs.host_disk.HostDiskDisk.read.Goals as goal

pub returns-then-is_err-clause-host_calls : goal.returns-then-is_err-clause-host_calls
returns-then-is_err-clause-host_calls c = search rules

pub returns-clause-host_calls : goal.returns-clause-host_calls
returns-clause-host_calls c = search rules

pub returns-clause-honest : goal.returns-clause-honest
returns-clause-honest c = search rules

pub returns-clause-read_bytes : goal.returns-clause-read_bytes
returns-clause-read_bytes c = search rules
