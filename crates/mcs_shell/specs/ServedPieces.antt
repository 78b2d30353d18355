-- Serving a single input, and serving inputs that arrive in chunks. Only contracts of private
-- functions use these definitions.
use Rattle.std.specs.Prelude.{◌≡◌, Bool, ℕ, List, ◌++◌, Option, None}
use Rattle.mcs_session.specs.declared.fault.SessionFault.{SessionFault}
use Rattle.mcs_session.specs.declared.fault.SessionFault.TheVariants as session_fault
use Rattle.mcs_session.specs.KeptCommands.{IsOpenOnHonestDisk}
use Rattle.mcs_session.specs.SessionState.{SessionState}
use Rattle.mcs_session.specs.Represents.{DiskRepresents}
use Rattle.mcs_shell.specs.declared.ends.ShellEnd.{ShellEnd}
use Rattle.mcs_shell.specs.declared.ends.Outcome.{Outcome}
use Rattle.mcs_shell.specs.declared.ends.Outcome.TheVariants.{Answered, Device, Closed}
use Rattle.mcs_shell.specs.Inputs.{Input}
use Rattle.mcs_shell.specs.LineFeeds.{HasNoFeed}
use Rattle.mcs_shell.specs.UnfinishedInputView.{UnfinishedInputView, inputs_after}
use Rattle.mcs_shell.specs.Serving.{LeavesSession, ServesExchanges}
use Rattle.mcs_shell.specs.ShellState.{ShellState}
use Rattle.mcs_shell.specs.Transcript.{IsPossibleOutcome, Exchange, acknowledged_commands, answer, end_caused_by_exchanges, inputs_in, is_device_fault, reached_commands}

-- The invariant that each input of a run preserves: the session is open on an honest disk, and the
-- disk represents the session's state.
pub record IsIntact (a : SessionState) : Type 0 where
  pub honest : IsOpenOnHonestDisk a
  pub represents : DiskRepresents a.disk a.state

-- the outcome of an input whose command was not recorded
abbrev pub outcome_of : SessionFault → Outcome
outcome_of (session_fault.Refused fault) = Answered
outcome_of session_fault.Device = Device
outcome_of session_fault.Closed = Closed

-- Holds if serving the input `i` in the session state `a` led to the session state `b`. `o` is the
-- outcome of the input, and `response` is the answer.
pub record AnsweredInput
    (a : SessionState) (i : Input) (o : Outcome) (response : List ℕ)
    (b : SessionState) : Type 0 where
  pub is_possible : IsPossibleOutcome a.live a.state i o
  pub answer_is : response ≡ answer a.state i o
  pub leaves : LeavesSession IsIntact (is_device_fault o) a b
      (acknowledged_commands a.state i o)
      (reached_commands a.state i o)

-- Holds if these bytes, read after the unfinished input `p`, were served. `p` and the bytes
-- together form inputs, and the shell served a prefix of these inputs. If nothing halted the shell,
-- it served all of these inputs, and `q` is the unfinished input afterwards.
pub record ServesBytes
    (a b : ShellState) (p q : UnfinishedInputView) (bytes : List ℕ) (halted : Option ShellEnd) : Type 0 where
  pub exchanges : List Exchange
  pub serves : ServesExchanges IsIntact a exchanges b
  pub halts : end_caused_by_exchanges exchanges ≡ halted
  -- the inputs that were not served, as a function of the bytes that follow and of whether input
  -- ends after them
  pub not_served : List ℕ → Bool → List Input
  pub inputs_split : (more : List ℕ) (whole : Bool)
      → inputs_after p (bytes ++ more) whole ≡ inputs_in exchanges ++ not_served more whole
  pub all_served : halted ≡ None → (more : List ℕ) (whole : Bool)
      → not_served more whole ≡ inputs_after q more whole
  pub no_feed : halted ≡ None → HasNoFeed q.line
