use Rattle.std.proofs.Common.{rules}
use Rattle.mcs_host.proofs.opening.lock.Goals as goal

pub returns-clause-host_calls : goal.returns-clause-host_calls
returns-clause-host_calls c = search rules

pub returns-clause-not_standard_stream : goal.returns-clause-not_standard_stream
returns-clause-not_standard_stream c = search rules
