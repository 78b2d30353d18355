-- The answers to inputs, and the effects of inputs.
use Rattle.std.specs.Prelude.{◌≡◌, ◌≢◌, ◌⊎◌, Bool, true, false, ℕ, List, [], ◌∷◌, ◌++◌, filter, map, Option, Some, None, Result, Ok, Err}
use Rattle.std.specs.Option.{option_or}
use Rattle.mcs_model.specs.declared.command.Command.{Command}
use Rattle.mcs_model.specs.BenchState.{BenchState}
use Rattle.mcs_model.specs.Command.{refusal, after, reply}
use Rattle.mcs_model.specs.Fold.{fold}
use Rattle.mcs_model.specs.RefusalNumbers.{bench_fault_number}
use Rattle.mcs_model.specs.declared.refusal_numbers.TheConstants.{CLOSED, DEVICE, NO_MEMORY}
use Rattle.mcs_lines.specs.RefusalNumbers.{line_fault_number}
use Rattle.mcs_lines.specs.declared.requests.TextKind.{TextKind}
use Rattle.mcs_lines.specs.declared.requests.Request.TheVariants.{Nothing, Refused, Ask, Listing, Board, Count, Trace, Change, Begin}
use Rattle.mcs_answers.specs.AnswerTexts.{board_answer, listing_answer, no_text, ok_text, query_answer}
use Rattle.mcs_answers.specs.ForecastTexts.{count_answer, trace_answer}
use Rattle.mcs_shell.specs.declared.ends.ShellEnd.{ShellEnd}
use Rattle.mcs_shell.specs.declared.ends.ShellEnd.TheVariants.{WriteFault, DeviceFault}
use Rattle.mcs_shell.specs.declared.ends.Outcome.{Outcome}
use Rattle.mcs_shell.specs.declared.ends.Outcome.TheVariants.{Answered, Device, Closed, NoMemory}
use Rattle.mcs_shell.specs.declared.texts.TextRefusal.{TextRefusal}
use Rattle.mcs_shell.specs.Inputs.{Input, Line, Text, BadText}
use Rattle.mcs_shell.specs.TextRefusalNumbers.{text_fault_number}
use Rattle.mcs_shell.specs.TextMeanings.{TextMeaning, Executes, Reports, meaning_of_text, text_refusal_answer}

-- ---- one input

-- the command that a text with this meaning requests, if any
abbrev pub text_command : Result TextMeaning TextRefusal → Option Command
text_command (Ok (Executes c)) = Some c
text_command r = None

-- the command that an input requests, if any
abbrev pub requested_command : Input → Option Command
requested_command (Line (Change c)) = Some c
requested_command (Text kind text) = text_command (meaning_of_text kind text)
requested_command i = None

-- The requested command as a list of one element. The list is empty if there is no command or the
-- state rejects it.
abbrev pub accepted_commands : BenchState → Option Command → List Command
accepted_commands s (Some c) = elim (refusal s c) [ None ↦ c ∷ [] | Some fault ↦ [] ]
accepted_commands s None = []

-- Holds if no text of this kind requests a command.
abbrev pub RequestsNoCommand : TextKind → Type 0
RequestsNoCommand kind = (text : List ℕ) → requested_command (Text kind text) ≡ None

-- true if an input needs an allocation, which can fail: a text, `list`, `board`, `count` or `trace`
abbrev pub needs_allocation : Input → Bool
needs_allocation (Text kind text) = true
needs_allocation (Line (Listing at lines)) = true
needs_allocation (Line Board) = true
needs_allocation (Line (Count n)) = true
needs_allocation (Line (Trace n probes)) = true
needs_allocation i = false

-- Holds if the outcome is possible for the input. The Bool is true if the session is open.
-- `Answered` is possible for an input without a command, and for a command if the session is open.
-- `Device` is possible if the session is open, for a command that the state accepts. `Closed` is
-- possible for a command if the session is closed. `NoMemory` is possible for an input that needs
-- an allocation.
unfoldable pub IsPossibleOutcome : Bool → BenchState → Input → Outcome → Type 0
IsPossibleOutcome live s i Answered = (requested_command i ≡ None) ⊎ (live ≡ true)
IsPossibleOutcome live s i Device = (accepted_commands s (requested_command i) ≢ []) × (live ≡ true)
IsPossibleOutcome live s i Closed = (requested_command i ≢ None) × (live ≡ false)
IsPossibleOutcome live s i NoMemory = needs_allocation i ≡ true

-- The command that was answered `ok`, as a list of one element, even if the answer was not written
-- completely. The list is empty if no command was answered `ok`.
unfoldable pub acknowledged_commands : BenchState → Input → Outcome → List Command
acknowledged_commands s i Answered = accepted_commands s (requested_command i)
acknowledged_commands s i o = []

-- The command that may have reached the disk, as a list of one element. The command was answered
-- `ok` or, if the device failed, `no 53`. The list is empty if no command could have reached the
-- disk.
unfoldable pub reached_commands : BenchState → Input → Outcome → List Command
reached_commands s i Answered = accepted_commands s (requested_command i)
reached_commands s i Device = accepted_commands s (requested_command i)
reached_commands s i o = []

-- the answer to a command that the session records or rejects, given the state before the command
abbrev pub change_answer : BenchState → Command → List ℕ
change_answer s c =
    elim (refusal s c) [
      | None ↦ ok_text (reply s c) (after s c)
      | Some fault ↦ no_text (bench_fault_number fault)
    ]

-- The answer to a text with this meaning, given the state before the text. It is the answer to the
-- text's command, the lines of the text's report, or the refusal for the text's error.
abbrev pub meaning_answer : BenchState → Result TextMeaning TextRefusal → List ℕ
meaning_answer s (Ok (Executes c)) = change_answer s c
meaning_answer s (Ok (Reports lines)) = lines
meaning_answer s (Err why) = text_refusal_answer why

-- the answer to an input whose outcome is `Answered`, given the state before the input
abbrev pub answer_from_state : BenchState → Input → List ℕ
answer_from_state s (Line Nothing) = []
answer_from_state s (Line (Begin kind)) = []
answer_from_state s (Line (Refused fault)) = no_text (line_fault_number fault)
answer_from_state s (Line (Ask query)) = query_answer query s
answer_from_state s (Line (Listing at lines)) = listing_answer at lines s
answer_from_state s (Line Board) = board_answer s
answer_from_state s (Line (Count n)) = count_answer n s
answer_from_state s (Line (Trace n probes)) = trace_answer probes.items n s
answer_from_state s (Line (Change c)) = change_answer s c
answer_from_state s (Text kind text) = meaning_answer s (meaning_of_text kind text)
answer_from_state s (BadText fault) = no_text (text_fault_number fault)

-- the answer to an input with this outcome, given the state before the input
unfoldable pub answer : BenchState → Input → Outcome → List ℕ
answer s i Answered = answer_from_state s i
answer s i Device = no_text DEVICE
answer s i Closed = no_text CLOSED
answer s i NoMemory = no_text NO_MEMORY

-- ---- inputs in order

-- An exchange: an input that was served, its outcome, and `whole`, which is true if the answer was
-- written completely.
pub record Exchange : Type 0 where
  pub input : Input
  pub outcome : Outcome
  pub whole : Bool

-- the exchanges whose answers were written completely
abbrev pub answered_exchanges : List Exchange → List Exchange
answered_exchanges exchanges = filter (λ (x : Exchange). x.whole) exchanges

-- the inputs of these exchanges, in order
abbrev pub inputs_in : List Exchange → List Input
inputs_in exchanges = map (λ (x : Exchange). x.input) exchanges

-- The concatenated results of `f` for the exchanges, in order. For each exchange, `f` gets the
-- state before its input. `results_in_order answer` gives the answers.
-- `results_in_order acknowledged_commands` gives the commands answered `ok`.
-- `results_in_order reached_commands` gives the commands that may have reached the disk.
abbrev pub results_in_order : {A : Type 0} → (BenchState → Input → Outcome → List A) → BenchState
    → List Exchange → List A
results_in_order f s [] = []
results_in_order f s (x ∷ rest) =
    f s x.input x.outcome ++ results_in_order f (fold s (acknowledged_commands s x.input x.outcome)) rest

-- The end of the shell that an exchange with this outcome causes, or `None`. The Bool is true if
-- the answer was written completely.
abbrev pub end_caused_by : Bool → Outcome → Option ShellEnd
end_caused_by false o = Some WriteFault
end_caused_by true Device = Some DeviceFault
end_caused_by true o = None

-- the end of the shell that the first halting exchange in this list causes, or `None`
abbrev pub end_caused_by_exchanges : List Exchange → Option ShellEnd
end_caused_by_exchanges [] = None
end_caused_by_exchanges (x ∷ rest) = option_or (end_caused_by x.whole x.outcome) (end_caused_by_exchanges rest)

-- true if the outcome is `Device`: the device failed
abbrev pub is_device_fault : Outcome → Bool
is_device_fault Device = true
is_device_fault o = false

-- Holds if each outcome is possible for its input, in the state before that input, and only the
-- last exchange can halt the shell. The Bool is true if the session is open.
abbrev pub ArePossibleExchanges : Bool → BenchState → List Exchange → Type 0
ArePossibleExchanges live s [] = Unit {0}
ArePossibleExchanges live s (x ∷ rest) =
    IsPossibleOutcome live s x.input x.outcome × (rest ≢ [] → end_caused_by x.whole x.outcome ≡ None)
    × ArePossibleExchanges live (fold s (acknowledged_commands s x.input x.outcome)) rest
