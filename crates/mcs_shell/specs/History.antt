-- The headline for any number of runs on one disk. In each run, a session is opened and a shell
-- serves it, until a stop ends the run at some moment. The next run opens the session again.
use Rattle.std.specs.Prelude.{◌≡◌, ◌⊎◌, ◌≤◌, ℕ, List, [], ◌∷◌, ◌++◌, length}
use Rattle.mcs_disk.specs.Disk.{DiskState, time_of}
use Rattle.mcs_disk.specs.PowerCut.{IsLeftByCut}
use Rattle.mcs_model.specs.declared.command.Command.{Command}
use Rattle.mcs_model.specs.BenchState.{BenchState}
use Rattle.mcs_model.specs.Fold.{fold}
use Rattle.mcs_session.specs.Acknowledgements.{acknowledged_by}
use Rattle.mcs_session.specs.SessionState.{SessionView}
use Rattle.mcs_shell.specs.Headline.{AnswersAndAcknowledges, reached_commands_of_run}
use Rattle.mcs_shell.specs.Program.{IsOpenedOn, IsOpenRefused, OpenRefusal}
use Rattle.mcs_shell.specs.Shell.{ShellRun}

-- ---- the sittings of a history

-- A sitting: the use of a disk from one stop to the next. `Served`: a session was opened on the
-- disk and a shell ran. `Refused`: `open` began no session; the fields are the refusal number and
-- the disk after the call.
pub data Sitting {D : Type 0} (state_of : D → DiskState) : Type 0 where
  Served : ShellRun state_of → Sitting state_of
  Refused : ℕ → D → Sitting state_of

-- Holds if a sitting began on `disk`: the session of its run was opened on `disk`, or `open` began
-- no session on `disk`.
abbrev pub IsSittingOn : {D : Type 0} {state_of : D → DiskState} → D → Sitting state_of → Type 0
IsSittingOn {state_of = state_of} disk (Served run) = IsOpenedOn state_of disk run.before
IsSittingOn {state_of = state_of} disk (Refused number left) =
    OpenRefusal (state_of disk) (state_of left) number

-- the disk after all calls of a sitting; a stop may have happened before the last of these calls
abbrev pub disk_after : {D : Type 0} {state_of : D → DiskState} → Sitting state_of → D
disk_after (Served run) = run.after.disk
disk_after (Refused number left) = left

-- A sitting that was stopped at clock `time` or later, and the disk that was found after the stop.
pub record StoppedSitting {D : Type 0} (state_of : D → DiskState) : Type 0 where
  pub sitting : Sitting state_of
  pub time : ℕ
  pub found : D

-- Holds if these sittings followed one another. The first sitting is on `disk`, and each later
-- sitting is on the disk that was found after the previous stop. `last` is the disk found at the
-- end. Each sitting was stopped at some moment since its opening began. (`IsFound time left found`:
-- `left` is the disk after all calls of a sitting, and a stop at clock `time` or later left the
-- disk `found`.)
abbrev pub IsHistory : {D : Type 0} {state_of : D → DiskState} → (ℕ → D → D → Type 0) → D
    → List (StoppedSitting state_of) → D → Type 0
IsHistory IsFound disk [] last = last ≡ disk
IsHistory {state_of = state_of} IsFound disk (x ∷ xs) last =
    IsSittingOn disk x.sitting × (time_of (state_of disk) ≤ x.time)
    × IsFound x.time (disk_after x.sitting) x.found × IsHistory IsFound x.found xs last

-- Holds if a power cut at clock `time` or later can leave the disk `found`. `left` is the disk
-- after all calls.
abbrev pub IsFoundByCut : {D : Type 0} → (D → DiskState) → ℕ → D → D → Type 0
IsFoundByCut state_of time left found = IsLeftByCut time (state_of left) (state_of found)

-- A history: a first run of a shell, and the sittings after it. The session of the first run may
-- have begun in any way. This run was stopped at clock `time` or later, and the disk `found` was
-- found after the stop. The other sittings followed on that disk (`others_follow`), and `last` is
-- the disk found at the end.
pub record History
    {D : Type 0} (state_of : D → DiskState) (IsFound : ℕ → D → D → Type 0) : Type 0 where
  pub first : ShellRun state_of
  pub time : ℕ
  pub since : time_of (state_of first.before.disk) ≤ time
  pub found : D
  pub stopped : IsFound time first.after.disk found
  pub others : List (StoppedSitting state_of)
  pub last : D
  pub others_follow : IsHistory IsFound found others last

-- all sittings of a history, the first run included
abbrev pub sittings_of : {D : Type 0} {state_of : D → DiskState} {IsFound : ℕ → D → D → Type 0}
    → History state_of IsFound → List (StoppedSitting state_of)
sittings_of history =
    record { sitting = Served history.first; time = history.time; found = history.found }
    ∷ history.others

-- ---- the kept commands

-- Holds if `kept` are the commands kept from a run that began in the state `s` and was stopped at
-- clock `time` or later. The run answered its inputs in order. The kept commands are a prefix of
-- `reached_commands_of_run`: the commands answered `ok`, followed by the one answered `no 53`
-- (device failed), if there is one. The prefix includes each command that was acknowledged by
-- `time`.
pub record AreKeptFromRun
    {D : Type 0} (state_of : D → DiskState) (run : ShellRun state_of) (time : ℕ) (s : BenchState)
    (kept : List Command) : Type 0 where
  pub begins_in_state : run.before.state ≡ s
  pub answered : AnswersAndAcknowledges run
  pub not_kept : List Command
  pub parts : reached_commands_of_run run ≡ kept ++ not_kept
  pub keeps_acknowledged : acknowledged_by time answered.acknowledged.moments ≤ length kept

-- Holds if `kept` are the commands kept from a sitting that began in the state `s` and was stopped
-- at clock `time` or later. If `open` began no session, no commands are kept, and the reason was an
-- I/O error (53) or lack of memory (90).
abbrev pub AreKeptFromSitting : {D : Type 0} (state_of : D → DiskState) → Sitting state_of → ℕ → BenchState
    → List Command → Type 0
AreKeptFromSitting state_of (Served run) time s kept = AreKeptFromRun state_of run time s kept
AreKeptFromSitting state_of (Refused number left) time s kept =
    (kept ≡ []) × ((number ≡ 53) ⊎ (number ≡ 90))

-- Holds if `kept` are the commands kept from these sittings, in order. The first sitting begins in
-- the state `s`. Each later sitting begins in the state after the commands kept from the sittings
-- before it.
abbrev pub AreKeptFromSittings : {D : Type 0} (state_of : D → DiskState)
    → List (StoppedSitting state_of) → BenchState → List Command → Type 0
AreKeptFromSittings state_of [] s kept = kept ≡ []
AreKeptFromSittings state_of (x ∷ xs) s kept =
    (first : List Command) × (rest : List Command) × (kept ≡ first ++ rest)
    × AreKeptFromSitting state_of x.sitting x.time s first × AreKeptFromSittings state_of xs (fold s first) rest

-- Holds if the commands kept from each sitting survive the history: a session opened at the end has
-- the state after all these commands, in order. Only an I/O error or lack of memory can prevent the
-- opening.
pub record SurvivesHistory
    {D : Type 0} {state_of : D → DiskState} {IsFound : ℕ → D → D → Type 0}
    (history : History state_of IsFound) : Type 0 where
  pub kept : List Command
  pub of_each : AreKeptFromSittings state_of (sittings_of history) history.first.before.state kept
  pub reopened : (session : SessionView D) → IsOpenedOn state_of history.last session
      → session.state ≡ fold history.first.before.state kept
  pub not_refused : (number : ℕ) → IsOpenRefused state_of history.last number
      → (number ≡ 53) ⊎ (number ≡ 90)
