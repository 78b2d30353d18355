-- Serving inputs, in order: the bytes written, and the session afterwards.
use Rattle.std.specs.Prelude.{◌≡◌, ◌<◌, Bool, true, false, ℕ, List, [], ◌∷◌, ◌++◌, length, take, Option, None}
use Rattle.std.specs.Io.KnownBytes.{Appends}
use Rattle.std.specs.List.{list_any}
use Rattle.mcs_disk.specs.Disk.{CountsFault}
use Rattle.mcs_model.specs.declared.command.Command.{Command}
use Rattle.mcs_model.specs.BenchState.{BenchState}
use Rattle.mcs_model.specs.Fold.{AreAccepted, fold}
use Rattle.mcs_shell.specs.declared.ends.ShellEnd.{ShellEnd}
use Rattle.mcs_shell.specs.Inputs.{Input}
use Rattle.mcs_session.specs.SessionState.{Premise, SessionState}
use Rattle.mcs_shell.specs.ShellState.{KnownBytes, ShellState}
use Rattle.mcs_shell.specs.Transcript.{ArePossibleExchanges, Exchange, answer, acknowledged_commands, end_caused_by_exchanges, results_in_order, inputs_in, is_device_fault, reached_commands}
use Rattle.mcs_session.specs.KeptCommands.{RecordsCommands, KeepsCommands}

-- ---- an answer

-- Holds if the writer received only a proper prefix of these bytes, possibly no bytes.
pub record ReceivedProperPrefix (old new : KnownBytes) (bytes : List ℕ) : Type 0 where
  pub count : ℕ
  pub fewer : count < length bytes
  pub received : Appends old new (take count bytes)

-- Holds if the writer received all of these bytes (for `true`), or only a proper prefix of these
-- bytes (for `false`).
abbrev pub WroteBytes : Bool → KnownBytes → KnownBytes → List ℕ → Type 0
WroteBytes true old new bytes = Appends old new bytes
WroteBytes false old new bytes = ReceivedProperPrefix old new bytes

-- Holds if the writer received the answers of these exchanges, in order. `s` is the state before
-- the first exchange. If the field `whole` of an exchange is true, the writer received the answer
-- completely, and otherwise only a proper prefix of the answer.
abbrev pub WroteAnswers : BenchState → List Exchange → KnownBytes → KnownBytes → Type 0
WroteAnswers s [] old new = new ≡ old
WroteAnswers s (x ∷ rest) old new =
    (middle : KnownBytes) × WroteBytes x.whole old middle (answer s x.input x.outcome)
    × WroteAnswers (fold s (acknowledged_commands s x.input x.outcome)) rest middle new

-- ---- the session

-- Holds if an I/O error closed the session. The commands `done` were answered `ok`. `reached`
-- consists of these commands, followed by the command at which the device failed. Any command in
-- `reached` may be on the disk.
pub record ClosesSession
    (Given : Premise) (a b : SessionState) (done reached : List Command) : Type 0 where
  pub closed : b.live ≡ false
  pub failed : Command
  pub reached_are : reached ≡ done ++ failed ∷ []
  pub accepted : AreAccepted a.state reached
  pub state : b.state ≡ fold a.state done
  pub counts : CountsFault a.disk b.disk (Unit {0})
  pub kept : Given a → KeepsCommands a.disk b.disk a.state done reached

-- Holds if serving inputs in the session state `a` led to the session state `b`. `done` are the
-- commands that were answered `ok`. If the Bool is true, the device failed at the last input, and
-- the session is closed.
abbrev pub LeavesSession : Premise → Bool → SessionState → SessionState → List Command
    → List Command → Type 0
LeavesSession Given false a b done reached = RecordsCommands Given a b done
LeavesSession Given true a b done reached = ClosesSession Given a b done reached

-- ---- inputs in order

-- Holds if serving these exchanges, in order, led from the shell state `a` to the shell state `b`.
-- `Given` is the premise under which the disk keeps the commands.
pub record ServesExchanges
    (Given : Premise) (a : ShellState) (exchanges : List Exchange) (b : ShellState) : Type 0 where
  pub is_possible : ArePossibleExchanges a.session.live a.session.state exchanges
  pub wrote : WroteAnswers a.session.state exchanges a.out b.out
  pub leaves : LeavesSession Given (list_any (λ (x : Exchange). is_device_fault x.outcome) exchanges)
      a.session b.session
      (results_in_order acknowledged_commands a.session.state exchanges)
      (results_in_order reached_commands a.session.state exchanges)

-- Holds if the shell served a prefix of the inputs `inputs_to_serve`. It served all of these inputs
-- if nothing halted the shell (`halted` is `None`).
pub record ServesInputs
    (Given : Premise) (inputs_to_serve : List Input) (a b : ShellState)
    (halted : Option ShellEnd) : Type 0 where
  pub exchanges : List Exchange
  pub serves : ServesExchanges Given a exchanges b
  pub halts : end_caused_by_exchanges exchanges ≡ halted
  pub not_served : List Input
  pub inputs_split : inputs_to_serve ≡ inputs_in exchanges ++ not_served
  pub all_served : halted ≡ None → not_served ≡ []
