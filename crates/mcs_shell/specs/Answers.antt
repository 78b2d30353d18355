-- The answers that a shell may write, and the condition for writing an answer. (Defined by
-- Fethsaim, not by Intel.)
use Rattle.std.specs.Prelude.{◌≡◌, ◌⊎◌, ℕ, List, IsTrue}
use Rattle.mcs_answers.specs.AnswerTexts.{session_text}
use Rattle.mcs_disk.specs.Disk.{DiskState}
use Rattle.mcs_session.specs.KeptCommands.{IsOpenOnHonestDisk}
use Rattle.mcs_session.specs.SessionState.{SessionView, session_state}
use Rattle.mcs_session.specs.Represents.{DiskRepresents}
use Rattle.mcs_shell.specs.Inputs.{Input}
use Rattle.mcs_shell.specs.Serving.{LeavesSession}
use Rattle.mcs_shell.specs.Transcript.{IsPossibleOutcome, acknowledged_commands, answer, is_device_fault, reached_commands}
use Rattle.mcs_shell.specs.declared.ends.Outcome.{Outcome}

-- Holds if these bytes are the answer to the input that was served last. The outcome was possible
-- in the session `before`, and serving the input turned `before` into the session `now`. Suppose
-- that the session was open on an honest disk. Then a command that is answered `ok` is recorded. No
-- call has reached the disk since the moment of the command's acknowledgement (`clock` of
-- `KeepsAllCommands`). `RanShell` states that the input was read and served.
pub record AnswersLastInput {D : Type 0} (state_of : D → DiskState) (now : SessionView D)
    (bytes : List ℕ) : Type 0 where
  pub before : SessionView D
  pub input : Input
  pub outcome : Outcome
  pub possible : IsPossibleOutcome before.live before.state input outcome
  pub is : bytes ≡ answer before.state input outcome
  pub leaves : LeavesSession IsOpenOnHonestDisk (is_device_fault outcome)
      (session_state state_of before) (session_state state_of now)
      (acknowledged_commands before.state input outcome)
      (reached_commands before.state input outcome)

-- Holds if the shell may write these bytes now. The bytes are the session's first line, or the
-- answer to the input that the shell served last. If the session is open and its disk is honest,
-- the disk represents the session's state, even after a power cut. The state includes the effect of
-- the answered command.
pub record MayAnswer {D : Type 0} (state_of : D → DiskState) (session : SessionView D)
    (bytes : List ℕ) : Type 0 where
  pub bytes_are : (bytes ≡ session_text session.state) ⊎ AnswersLastInput state_of session bytes
  pub represents : IsTrue session.live → (state_of session.disk).honest
      → DiskRepresents (state_of session.disk) session.state
