-- The commands of a run that survive a power cut on its disk.
use Rattle.std.proofs.Common.{◌≡◌, List, Bool, true, false, refl, sym, subst}
use Rattle.mcs_disk.specs.Disk.{DiskState}
use Rattle.mcs_model.specs.declared.command.Command.{Command}
use Rattle.mcs_session.specs.KeptCommands.{IsOpenOnHonestDisk, KeepsCommands}
use Rattle.mcs_session.specs.SessionState.{SessionState, session_state}
use Rattle.mcs_session.proofs.Reopening.{error_after_cut_is_device_or_memory, reopened_state_is_after_prefix}
use Rattle.mcs_shell.specs.Headline.{AnswersAndAcknowledges, AnswersAndSurvives, acknowledged_commands_of_run, reached_commands_of_run}
use Rattle.mcs_shell.specs.Serving.{LeavesSession}
use Rattle.mcs_shell.specs.Shell.{ShellRun}
use Rattle.mcs_shell.specs.ShellState.{shell_state}
use Rattle.mcs_shell.proofs.RunAnswers.{answers_of_run}
use Rattle.mcs_shell.proofs.ExchangeLists.{has_device_fault, all_reached_equal_acknowledged}

keeps_commands_if_leaves_session : (failed : Bool) (a b : SessionState) (cs rs : List Command) → (failed ≡ false → rs ≡ cs) → IsOpenOnHonestDisk a → LeavesSession IsOpenOnHonestDisk failed a b cs rs → KeepsCommands a.disk b.disk a.state cs rs
keeps_commands_if_leaves_session false a b cs rs same given x = subst (λ (v : List Command). KeepsCommands a.disk b.disk a.state cs v) (sym (same refl)) (x.kept given).kept
keeps_commands_if_leaves_session true a b cs rs same given x = x.kept given

-- If the session is open on an honest disk, the disk keeps the commands of the run.
pub keeps_commands_of_run : {D : Type 0} (state_of : D → DiskState) (run : ShellRun state_of) → IsOpenOnHonestDisk (session_state state_of run.before)
    → KeepsCommands (state_of run.before.disk) (state_of run.after.disk) run.before.state (acknowledged_commands_of_run run) (reached_commands_of_run run)
keeps_commands_of_run state_of run given =
    let exchanges = run.ran.served.exchanges in
    keeps_commands_if_leaves_session (has_device_fault exchanges) (session_state state_of run.before) (session_state state_of run.after) (acknowledged_commands_of_run run) (reached_commands_of_run run) (all_reached_equal_acknowledged run.before.state exchanges) given run.ran.served.serves.leaves

-- A run answers its inputs in order and acknowledges its commands if the disk keeps its commands.
abbrev pub answers_and_acknowledges_run : {D : Type 0} (state_of : D → DiskState) (run : ShellRun state_of) → KeepsCommands (state_of run.before.disk) (state_of run.after.disk) run.before.state (acknowledged_commands_of_run run) (reached_commands_of_run run)
    → AnswersAndAcknowledges run
answers_and_acknowledges_run state_of run kept = record {
  answers = answers_of_run run.end run.reader run.reader' (shell_state state_of run.before run.out) (shell_state state_of run.after run.out') run.ran;
  acknowledged = kept.acknowledged;
  failed = kept.failed;
  reached_are = kept.reached_are;
}

pub run_answers_and_survives : {D E : Type 0} (state_of : D → DiskState) (found_of : E → DiskState) (run : ShellRun state_of) → IsOpenOnHonestDisk (session_state state_of run.before) → AnswersAndSurvives state_of found_of run
run_answers_and_survives state_of found_of run given =
    let old = state_of run.before.disk in
    let new = state_of run.after.disk in
    let s = run.before.state in
    let kept_commands = keeps_commands_of_run state_of run given in
    record {
      answered = answers_and_acknowledges_run state_of run kept_commands;
      survives = record {
        reopened = λ time found opened state late cut opens. reopened_state_is_after_prefix time old new (found_of found) (found_of opened) s state (acknowledged_commands_of_run run) (reached_commands_of_run run) kept_commands late cut opens;
        not_refused = λ time found fault late cut h. error_after_cut_is_device_or_memory time old new (found_of found) s (acknowledged_commands_of_run run) (reached_commands_of_run run) fault kept_commands late cut h;
      };
    }

-- ---- the honesty of the disk, which a run preserves

disk_honest_after_session : (failed : Bool) (a b : SessionState) (cs rs : List Command) → LeavesSession IsOpenOnHonestDisk failed a b cs rs → a.disk.honest → b.disk.honest
disk_honest_after_session false a b cs rs x = x.counts.honest.1
disk_honest_after_session true a b cs rs x = x.counts.honest.1

pub disk_honest_after_run : {D : Type 0} (state_of : D → DiskState) (run : ShellRun state_of) → (state_of run.before.disk).honest → (state_of run.after.disk).honest
disk_honest_after_run state_of run honest =
    disk_honest_after_session (has_device_fault run.ran.served.exchanges) (session_state state_of run.before) (session_state state_of run.after) (acknowledged_commands_of_run run) (reached_commands_of_run run) run.ran.served.serves.leaves honest
