-- The bytes that a shell read and wrote, and the effects of the shell on the session, for each
-- reason why a shell can end.
use Rattle.std.specs.Prelude.{◌≡◌, ◌⊎◌, ◌<◌, ◌≤◌, Bool, true, false, ℕ, List, [], ◌++◌, length, Option, Some, None}
use Rattle.std.specs.Io.KnownBytes.{Consumes, IsAtEnd}
use Rattle.mcs_shell.specs.declared.ends.ShellEnd.{ShellEnd}
use Rattle.mcs_shell.specs.declared.ends.ShellEnd.TheVariants.{End, ReadFault, WriteFault, DeviceFault, InputLimit, NoMemory}
use Rattle.mcs_model.specs.declared.limits.TheConstants.{INPUT_BYTES}
use Rattle.mcs_shell.specs.Inputs.{Input, inputs}
use Rattle.mcs_disk.specs.Disk.{DiskState}
use Rattle.mcs_session.specs.SessionState.{Premise, SessionView}
use Rattle.mcs_shell.specs.ShellState.{KnownBytes, ShellState, shell_state, with_output}
use Rattle.mcs_shell.specs.Transcript.{Exchange, answered_exchanges, inputs_in}
use Rattle.mcs_answers.specs.AnswerTexts.{session_text}
use Rattle.mcs_session.specs.KeptCommands.{IsOpenOnHonestDisk}
use Rattle.mcs_shell.specs.Serving.{ServesInputs, WroteBytes}

-- Holds if the shell answered at least every input that was complete before the last 4,096 bytes
-- read. (The number is a literal, so the proof fails for a shell with larger chunks.)
pub record ReadsLittleAhead (bytes : List ℕ) (answered : List Input) : Type 0 where
  pub before : List ℕ
  pub ahead : List ℕ
  pub parts : bytes ≡ before ++ ahead
  pub few : length ahead ≤ 4_096
  pub more : List Input
  pub answered_are : answered ≡ inputs before false ++ more

-- The bytes that a run read from its reader: at most `INPUT_BYTES` bytes.
pub record ReadInput (reader reader' : KnownBytes) : Type 0 where
  pub bytes : List ℕ
  pub consumed : Consumes reader reader' bytes
  pub within : length bytes ≤ INPUT_BYTES
  -- true if input ended after these bytes. Then fewer than `INPUT_BYTES` bytes were read, and the
  -- reader has no bytes left.
  pub ended : Bool
  pub input_ended : ended ≡ true → (length bytes < INPUT_BYTES) × IsAtEnd reader'

-- the inputs that the bytes of a `ReadInput` form
abbrev pub inputs_read : {reader reader' : KnownBytes} → ReadInput reader reader' → List Input
inputs_read read = inputs read.bytes read.ended

-- The start of a run: the shell wrote its first line completely, or only a proper prefix of the
-- line, possibly no bytes.
pub record RunStart (first_line : List ℕ) (out : KnownBytes) : Type 0 where
  -- `whole` is true if the first line was written completely. `started` has the bytes that the
  -- writer had received after this write.
  pub whole : Bool
  pub started : KnownBytes
  pub wrote : WroteBytes whole out started first_line

-- Holds if the first line was not written completely, no bytes were read, and no inputs were
-- served.
abbrev pub HasNotBegun : Bool → List ℕ → List Exchange → Type 0
HasNotBegun begun bytes exchanges = (begun ≡ false) × (bytes ≡ []) × (exchanges ≡ [])

-- Holds if a run ended for the given reason. `begun` is true if the first line was written
-- completely. `bytes` are the bytes that were read, and `ended` is true if input ended after them.
-- `exchanges` are the exchanges of the run. `halted` is the end of the shell that an exchange
-- caused, or `None`.
abbrev pub EndsBy : ShellEnd → Bool → List ℕ → Bool → List Exchange → Option ShellEnd → Type 0
EndsBy End begun bytes ended exchanges halted = (begun ≡ true) × (ended ≡ true) × (halted ≡ None)
EndsBy ReadFault begun bytes ended exchanges halted =
    (begun ≡ true) × (ended ≡ false) × (halted ≡ None) × (length bytes < INPUT_BYTES)
EndsBy InputLimit begun bytes ended exchanges halted =
    (begun ≡ true) × (ended ≡ false) × (halted ≡ None) × (length bytes ≡ INPUT_BYTES)
EndsBy WriteFault begun bytes ended exchanges halted =
    ((begun ≡ true) × (halted ≡ Some WriteFault)) ⊎ HasNotBegun begun bytes exchanges
EndsBy DeviceFault begun bytes ended exchanges halted =
    (begun ≡ true) × (halted ≡ Some DeviceFault)
EndsBy NoMemory begun bytes ended exchanges halted = HasNotBegun begun bytes exchanges

-- Holds if the shell ran from the shell state `a` to `b` and ended for the reason `end`. It wrote
-- the first line, or only a proper prefix of the line. It read bytes, and served a prefix of the
-- inputs that these bytes form. `Given` is the premise under which the disk keeps the commands.
pub record RanShellGiven
    (Given : Premise) (first_line : List ℕ) (end : ShellEnd) (reader reader' : KnownBytes)
    (a b : ShellState) : Type 0 where
  pub read : ReadInput reader reader'
  pub start : RunStart first_line a.out
  pub halted : Option ShellEnd
  pub served : ServesInputs Given (inputs_read read) (with_output a start.started) b halted
  pub reads_little_ahead : ReadsLittleAhead read.bytes (inputs_in (answered_exchanges served.exchanges))
  pub ends : EndsBy end start.whole read.bytes read.ended served.exchanges halted
  pub unwritten : end ≡ NoMemory → b.out ≡ a.out

-- Holds if the shell ran from the shell state `a` to `b`. Its first line reported the number of
-- commands that the session had accepted (`session_text`). The claims about the disk (`kept`) have
-- a premise: the session is open and its disk is honest.
abbrev pub RanShell : ShellEnd → KnownBytes → KnownBytes → ShellState → ShellState → Type 0
RanShell end reader reader' a b =
    RanShellGiven IsOpenOnHonestDisk (session_text a.session.state) end reader reader' a b

-- A run of the shell: the reason for its end, and the remaining input, the session and the output,
-- each before and after the run. (`state_of` maps the session's disk to the `DiskState` that
-- contracts use.)
pub record ShellRun {D : Type 0} (state_of : D → DiskState) : Type 0 where
  pub end : ShellEnd
  pub reader : KnownBytes
  pub reader' : KnownBytes
  pub before : SessionView D
  pub after : SessionView D
  pub out : KnownBytes
  pub out' : KnownBytes
  pub ran : RanShell end reader reader'
      (shell_state state_of before out) (shell_state state_of after out')

-- Holds if a read of at most `max_count` bytes returned these `n` bytes. A read returns no bytes
-- only at the end of input.
pub record ReadBytes (n max_count : ℕ) (old new : KnownBytes) (bytes : List ℕ) : Type 0 where
  pub within : n ≤ max_count
  pub count : length bytes ≡ n
  pub consumed : Consumes old new bytes
  pub at_end : n ≡ 0 → IsAtEnd new

-- the exit status for the end of a shell
abbrev pub exit_status_of : ShellEnd → ℕ
exit_status_of End = 0
exit_status_of ReadFault = 1
exit_status_of WriteFault = 1
exit_status_of DeviceFault = 1
exit_status_of InputLimit = 1
exit_status_of NoMemory = 3
