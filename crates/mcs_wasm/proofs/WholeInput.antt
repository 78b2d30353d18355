-- A shell that executes all of its input keeps the size of the disk and leaves the session open.
use Rattle.std.proofs.Common.{◌≡◌, ◌∙◌, ℕ, List, Option, length, ap}
use Rattle.mcs_disk.specs.Disk.{size_of}
use Rattle.mcs_disk.specs.States.{mem_disk_state}
use Rattle.mcs_disk.specs.declared.memory.MemDisk.{MemDisk}
use Rattle.mcs_wasm.specs.Page.{IsAllServed, ResumesSession}
use Rattle.mcs_session.specs.KeptCommands.{RecordsCommands, IsOpenOnHonestDisk}
use Rattle.mcs_session.specs.SessionState.{SessionView}
use Rattle.mcs_shell.proofs.Exchanges.{records_commands_if_not_halted}
use Rattle.mcs_shell.specs.Transcript.{acknowledged_commands, results_in_order}
use Rattle.mcs_shell.specs.Shell.{RanShell}
use Rattle.mcs_shell.specs.ShellState.{ShellState}
use Rattle.mcs_shell.specs.declared.ends.ShellEnd.{ShellEnd}
use Rattle.mcs_shell.specs.declared.ends.ShellEnd.TheVariants.{End, ReadFault, WriteFault, DeviceFault, InputLimit, NoMemory}

-- no input halted a shell that executed all of its input, so the session recorded the acknowledged
-- commands
session_records_acknowledged_commands : (end : ShellEnd) (reader reader' : Option (List ℕ)) (a b : ShellState) → IsAllServed end → (ran : RanShell end reader reader' a b) → RecordsCommands IsOpenOnHonestDisk a.session b.session (results_in_order acknowledged_commands a.session.state ran.served.exchanges)
session_records_acknowledged_commands End reader reader' a b whole ran = records_commands_if_not_halted IsOpenOnHonestDisk a.session b.session a.session.state ran.served.exchanges (ran.served.halts ∙ ran.ends.2) ran.served.serves.leaves
session_records_acknowledged_commands InputLimit reader reader' a b whole ran = records_commands_if_not_halted IsOpenOnHonestDisk a.session b.session a.session.state ran.served.exchanges (ran.served.halts ∙ ran.ends.2) ran.served.serves.leaves
session_records_acknowledged_commands ReadFault reader reader' a b whole ran = absurd whole
session_records_acknowledged_commands WriteFault reader reader' a b whole ran = absurd whole
session_records_acknowledged_commands DeviceFault reader reader' a b whole ran = absurd whole
session_records_acknowledged_commands NoMemory reader reader' a b whole ran = absurd whole

pub disk_size_unchanged_if_all_served : (end : ShellEnd) (reader reader' : Option (List ℕ)) (a b : ShellState) → IsAllServed end → RanShell end reader reader' a b → size_of b.session.disk ≡ size_of a.session.disk
disk_size_unchanged_if_all_served end reader reader' a b whole ran = ap length (session_records_acknowledged_commands end reader reader' a b whole ran).counts.start

pub live_unchanged_if_all_served : (end : ShellEnd) (reader reader' : Option (List ℕ)) (a b : ShellState) → IsAllServed end → RanShell end reader reader' a b → b.session.live ≡ a.session.live
live_unchanged_if_all_served end reader reader' a b whole ran = (session_records_acknowledged_commands end reader reader' a b whole ran).live

-- the disk of a resumed session has the size of the file
pub disk_size_of_resumed_session : (file : List ℕ) (session : SessionView MemDisk) → ResumesSession file session → size_of (mem_disk_state session.disk) ≡ length file
disk_size_of_resumed_session file session resumed = ap (λ (f : List ℕ). length f) (resumed.opened.counts.start ∙ resumed.fresh_disk.start)
