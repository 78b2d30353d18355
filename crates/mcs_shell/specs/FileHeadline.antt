-- The headline for a file of the host: the contents that the program finds in the file after a
-- stop.
use Rattle.std.specs.Prelude.{◌≡◌, ◌⊎◌, ◌≤◌, ℕ}
use Rattle.mcs_disk.specs.Disk.{bytes_of, time_of}
use Rattle.mcs_host.specs.Ending.{IsLeftSince, as_disk, bytes_found_in}
use Rattle.mcs_host.specs.FileDisk.{HasNoCalls}
use Rattle.mcs_host.specs.declared.file_disk.FileDisk.{FileDisk}
use Rattle.mcs_session.specs.Acknowledgements.{acknowledged_by}
use Rattle.mcs_session.specs.KeptCommands.{IsAfterPrefix}
use Rattle.mcs_session.specs.SessionState.{SessionView}
use Rattle.mcs_shell.specs.Headline.{AnswersAndAcknowledges, reached_commands_of_run}
use Rattle.mcs_shell.specs.Program.{IsOpenedOn, IsOpenRefused}
use Rattle.mcs_shell.specs.Shell.{ShellRun}

-- Holds if a file was opened again after a stop. The stop (a close, a kill or a power cut) happened
-- at clock `time` or later. `reopened_file`, seen as a disk, is honest and has the bytes found in
-- the file. No call has reached this disk.
pub record IsReopenedFile (time : ℕ) (file reopened_file : FileDisk) : Type 0 where
  pub left : IsLeftSince time file
  pub opened : HasNoCalls (as_disk reopened_file)
  pub bytes : bytes_of (as_disk reopened_file) ≡ bytes_found_in file
  pub honest : (as_disk reopened_file).honest

-- Holds if a run on a file of the host answered its inputs in order, and its commands survive every
-- stop. A close, a kill or a power cut can stop the run at any moment after it began. The program's
-- `open` then begins a session on the contents found in the file. This session has executed a
-- prefix of `reached_commands_of_run`: the commands answered `ok`, followed by the one answered
-- `no 53` (device failed), if there is one. The prefix includes each command that was acknowledged
-- by the moment of the stop. `open` fails only because of an I/O error (53) or lack of memory (90).
pub record SurvivesInFile (run : ShellRun as_disk) : Type 0 where
  pub answered : AnswersAndAcknowledges run
  pub reopened : (time : ℕ) (reopened_file : FileDisk) (session : SessionView FileDisk)
      → time_of (as_disk run.before.disk) ≤ time → IsReopenedFile time run.after.disk reopened_file
      → IsOpenedOn as_disk reopened_file session
      → IsAfterPrefix run.before.state (reached_commands_of_run run)
      (acknowledged_by time answered.acknowledged.moments) session.state
  pub not_refused : (time : ℕ) (reopened_file : FileDisk) (number : ℕ)
      → time_of (as_disk run.before.disk) ≤ time → IsReopenedFile time run.after.disk reopened_file
      → IsOpenRefused as_disk reopened_file number → (number ≡ 53) ⊎ (number ≡ 90)
