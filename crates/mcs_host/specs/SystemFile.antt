-- The state of an open file of the operating system, as contracts see it.
use Rattle.std.specs.Fd.{file_raw_fd}
use Rattle.mcs_host.specs.HostCalls.{HostState}
use Rattle.mcs_host.specs.NotedHostCalls.{host_calls_in}
use Rattle.mcs_host.specs.declared.system_file.SystemFile.{SystemFile}

-- the state of a file: the name with which it was opened, its descriptor, and the calls on it
abbrev pub system_state : SystemFile → HostState
system_state file = record { name = file.history.start; number = file_raw_fd file.file; calls = host_calls_in file.history.notes }
