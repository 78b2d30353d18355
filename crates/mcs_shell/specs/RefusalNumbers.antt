-- The refusal numbers for commands that were not recorded, and for sessions that did not begin.
use Rattle.std.specs.Prelude.{ℕ}
use Rattle.mcs_host.specs.declared.file_fault.FileFault.{FileFault}
use Rattle.mcs_host.specs.declared.file_fault.FileFault.TheVariants as file_fault
use Rattle.mcs_host.specs.Streams.{no_streams}
use Rattle.mcs_host.specs.declared.streams.Streams.{Streams}
use Rattle.mcs_journal.specs.declared.fault.StoreFault.{StoreFault}
use Rattle.mcs_journal.specs.declared.fault.StoreFault.TheVariants as store_fault
use Rattle.mcs_model.specs.RefusalNumbers.{bench_fault_number}
use Rattle.mcs_model.specs.declared.refusal_numbers.TheConstants.{CLOSED, DAMAGED, DEVICE, NOT_A_SESSION, NOT_BLANK, NO_MEMORY}
use Rattle.mcs_session.specs.declared.fault.SessionFault.{SessionFault}
use Rattle.mcs_session.specs.declared.fault.SessionFault.TheVariants as session_fault
use Rattle.mcs_shell.specs.declared.faults.BeginFault.{BeginFault}
use Rattle.mcs_shell.specs.declared.faults.BeginFault.TheVariants as begin_fault

-- the refusal number for a command that was not recorded
abbrev pub session_fault_number : SessionFault → ℕ
session_fault_number (session_fault.Refused f) = bench_fault_number f
session_fault_number session_fault.Device = DEVICE
session_fault_number session_fault.Closed = CLOSED

-- the refusal number for a session that was not created or not opened
abbrev pub store_fault_number : StoreFault → ℕ
store_fault_number store_fault.NotASession = NOT_A_SESSION
store_fault_number store_fault.Damaged = DAMAGED
store_fault_number store_fault.Device = DEVICE
store_fault_number store_fault.NotBlank = NOT_BLANK
store_fault_number store_fault.NoMemory = NO_MEMORY

-- the refusal number for a file that was not opened: NO_MEMORY for lack of memory, and DEVICE for
-- every other reason
abbrev pub file_fault_number : FileFault → ℕ
file_fault_number file_fault.InUse = DEVICE
file_fault_number file_fault.CannotLock = DEVICE
file_fault_number file_fault.FileMissing = DEVICE
file_fault_number file_fault.Denied = DEVICE
file_fault_number file_fault.Folder = DEVICE
file_fault_number file_fault.NotAFile = DEVICE
file_fault_number file_fault.NameTooLong = DEVICE
file_fault_number file_fault.NoSpace = DEVICE
file_fault_number file_fault.FolderUnsynced = DEVICE
file_fault_number file_fault.TooManyFiles = DEVICE
file_fault_number (file_fault.Stream streams) = DEVICE
file_fault_number file_fault.StreamsUnknown = DEVICE
file_fault_number file_fault.Device = DEVICE
file_fault_number file_fault.NoMemory = NO_MEMORY

-- the refusal number for a session that did not begin
abbrev pub begin_fault_number : BeginFault → ℕ
begin_fault_number (begin_fault.File f) = file_fault_number f
begin_fault_number (begin_fault.Create f) = store_fault_number f
begin_fault_number (begin_fault.Open f) = store_fault_number f

-- The standard streams that are the session's file, if no session began because of these streams.
-- For any other reason, no streams.
abbrev pub streams_of : BeginFault → Streams
streams_of (begin_fault.File (file_fault.Stream streams)) = streams
streams_of fault = no_streams
