-- The headline: the answers of a run, and the state that a session opens with after a power cut at
-- any moment of the run.
use Rattle.std.specs.Prelude.{◌≡◌, ◌≢◌, ◌⊎◌, ◌≤◌, ℕ, List, [], ◌++◌}
use Rattle.std.specs.Io.KnownBytes.{Appends}
use Rattle.mcs_answers.specs.AnswerTexts.{session_text}
use Rattle.mcs_disk.specs.Disk.{DiskState, time_of}
use Rattle.mcs_disk.specs.PowerCut.{IsLeftByCut}
use Rattle.mcs_journal.specs.declared.fault.StoreFault.{StoreFault}
use Rattle.mcs_journal.specs.declared.fault.StoreFault.TheVariants as store_fault
use Rattle.mcs_model.specs.declared.command.Command.{Command}
use Rattle.mcs_model.specs.BenchState.{BenchState}
use Rattle.mcs_session.specs.Acknowledgements.{Acknowledgements, acknowledged_by}
use Rattle.mcs_session.specs.Opening.{OpensSession, SessionErrorImplies}
use Rattle.mcs_session.specs.KeptCommands.{IsAfterPrefix}
use Rattle.mcs_shell.specs.Inputs.{Input}
use Rattle.mcs_shell.specs.declared.ends.ShellEnd.{ShellEnd}
use Rattle.mcs_shell.specs.declared.ends.ShellEnd.TheVariants.{WriteFault, DeviceFault, NoMemory}
use Rattle.mcs_shell.specs.Shell.{ReadInput, ShellRun, inputs_read}
use Rattle.mcs_shell.specs.ShellState.{KnownBytes, ShellState, shell_state}
use Rattle.mcs_shell.specs.Transcript.{ArePossibleExchanges, Exchange, answer, acknowledged_commands, results_in_order, inputs_in, reached_commands}

-- ---- the answers of a run

-- Holds if a run answered its inputs in order. The bytes that the run read form inputs, and the run
-- served a prefix of these inputs. It served all of these inputs unless a write or the device
-- failed, or the shell could not allocate its buffer. The run wrote the session's first line,
-- followed by the answers to the inputs that it served. Each answer follows from the state after
-- the commands that were answered `ok` before that answer. Only a failed write, or lack of memory
-- for the buffer, can truncate the bytes written.
pub record AnswersInOrder
    (end : ShellEnd) {reader reader' : KnownBytes} (read : ReadInput reader reader')
    (a b : ShellState) (exchanges : List Exchange) : Type 0 where
  pub not_served : List Input
  pub inputs_split : inputs_read read ≡ inputs_in exchanges ++ not_served
  pub all_served : end ≢ WriteFault → end ≢ DeviceFault → end ≢ NoMemory → not_served ≡ []
  pub is_possible : ArePossibleExchanges a.session.live a.session.state exchanges
  pub response : List ℕ
  pub left_out : List ℕ
  pub written : Appends a.out b.out response
  pub parts : response ++ left_out
      ≡ session_text a.session.state ++ results_in_order answer a.session.state exchanges
  pub all_sent : end ≢ WriteFault → end ≢ NoMemory → left_out ≡ []

-- the commands that a run answered `ok`
abbrev pub acknowledged_commands_of_run : {D : Type 0} {state_of : D → DiskState} → ShellRun state_of → List Command
acknowledged_commands_of_run run = results_in_order acknowledged_commands run.before.state run.ran.served.exchanges

-- the commands that a run answered `ok`, followed by the command that it answered `no 53` (device
-- failed), if there is one
abbrev pub reached_commands_of_run : {D : Type 0} {state_of : D → DiskState} → ShellRun state_of → List Command
reached_commands_of_run run = results_in_order reached_commands run.before.state run.ran.served.exchanges

-- Holds if a run answered its inputs in order and acknowledged its commands. Each command that the
-- run answered `ok` has a moment of acknowledgement. `reached_commands_of_run` consists of these
-- commands, followed by the command that was answered `no 53` (device failed), if there is one.
-- (`state_of` maps the run's disk to the `DiskState` that contracts use.)
pub record AnswersAndAcknowledges
    {D : Type 0} {state_of : D → DiskState} (run : ShellRun state_of) : Type 0 where
  pub answers : AnswersInOrder run.end run.ran.read
      (shell_state state_of run.before run.out)
      (shell_state state_of run.after run.out') run.ran.served.exchanges
  pub acknowledged : Acknowledgements (state_of run.before.disk) (state_of run.after.disk)
      (acknowledged_commands_of_run run)
  pub failed : List Command
  pub reached_are : reached_commands_of_run run ≡ acknowledged_commands_of_run run ++ failed

-- ---- the state after a power cut

-- Holds if the commands of a run survive every power cut. `found` is a disk that a power cut at
-- clock `time` or later leaves, during the run or after the run. (`found_of` maps `found` to its
-- `DiskState`.) A session opened on `found` has executed a prefix of `reached_commands_of_run`: the
-- commands answered `ok`, followed by the one answered `no 53` (device failed), if there is one.
-- The prefix includes each command that was acknowledged by `time`. Only lack of memory or an I/O
-- error can prevent the opening.
pub record SurvivesPowerCuts
    {D E : Type 0} {state_of : D → DiskState} (found_of : E → DiskState) (run : ShellRun state_of)
    (moments : List ℕ) : Type 0 where
  pub reopened : (time : ℕ) (found opened : E) (state : BenchState)
      → time_of (state_of run.before.disk) ≤ time
      → IsLeftByCut time (state_of run.after.disk) (found_of found)
      → OpensSession (found_of found) (found_of opened) state
      → IsAfterPrefix run.before.state (reached_commands_of_run run) (acknowledged_by time moments) state
  pub not_refused : (time : ℕ) (found : E) (fault : StoreFault)
      → time_of (state_of run.before.disk) ≤ time
      → IsLeftByCut time (state_of run.after.disk) (found_of found)
      → SessionErrorImplies fault (found_of found)
      → (fault ≡ store_fault.Device) ⊎ (fault ≡ store_fault.NoMemory)

-- Holds if a run answered its inputs in order, and its commands survive every power cut. The law
-- that proves this claim has a premise: the session is open and its disk is honest
-- (`IsOpenOnHonestDisk`).
pub record AnswersAndSurvives
    {D E : Type 0} (state_of : D → DiskState) (found_of : E → DiskState)
    (run : ShellRun state_of) : Type 0 where
  pub answered : AnswersAndAcknowledges run
  pub survives : SurvivesPowerCuts found_of run answered.acknowledged.moments
