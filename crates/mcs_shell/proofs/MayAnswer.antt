-- The answers that a shell may write.
use Rattle.std.proofs.Common.{◌≡◌, inl, inr, List, ℕ, IsTrue}
use Rattle.mcs_answers.specs.AnswerTexts.{session_text}
use Rattle.mcs_disk.specs.Disk.{DiskState}
use Rattle.mcs_session.specs.SessionState.{SessionView, session_state}
use Rattle.mcs_session.specs.Represents.{DiskRepresents}
use Rattle.mcs_shell.specs.Answers.{MayAnswer}
use Rattle.mcs_shell.specs.Inputs.{Input}
use Rattle.mcs_shell.specs.ServedPieces.{AnsweredInput}
use Rattle.mcs_shell.specs.Transcript.{acknowledged_commands, is_device_fault, reached_commands}
use Rattle.mcs_shell.specs.declared.ends.Outcome.{Outcome}
use Rattle.mcs_shell.proofs.ShellLoop.{leaves_session_under_open_premise}

-- Holds if the disk represents the session's state, provided that the session is open and the disk
-- is honest.
abbrev DiskRepresentsState : {D : Type 0} → (D → DiskState) → SessionView D → Type 0
DiskRepresentsState state_of s = IsTrue s.live → (state_of s.disk).honest → DiskRepresents (state_of s.disk) s.state

pub may_write_answer_to_input : {D : Type 0} (state_of : D → DiskState) (before now : SessionView D) (i : Input) (o : Outcome) (response : List ℕ) → AnsweredInput (session_state state_of before) i o response (session_state state_of now)
    → DiskRepresentsState state_of before → DiskRepresentsState state_of now → MayAnswer state_of now response
may_write_answer_to_input state_of before now i o response answered stood represents = record {
  bytes_are = inr (record {
    before = before;
    input = i;
    outcome = o;
    possible = answered.is_possible;
    is = answered.answer_is;
    leaves = leaves_session_under_open_premise (is_device_fault o) (session_state state_of before) (session_state state_of now) (acknowledged_commands before.state i o) (reached_commands before.state i o)
        (λ given. record { honest = given; represents = stood given.0 given.1 }) answered.leaves;
  });
  represents = represents;
}

pub may_write_first_line : {D : Type 0} (state_of : D → DiskState) (now : SessionView D) (response : List ℕ) → response ≡ session_text now.state → DiskRepresentsState state_of now → MayAnswer state_of now response
may_write_first_line state_of now response is represents = record { bytes_are = inl is; represents = represents }
