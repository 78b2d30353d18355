-- The meaning of a question, which is read line by line.
use Rattle.std.specs.Prelude.{◌≡◌, ◌==◌, ◌&&◌, ℕ, Bool, true, false, not, List, [], ◌∷◌, ◌++◌, length, nat_le, codes, Option, Some, None, if◌then◌else◌}
use Rattle.std.specs.Option.{option_map}
use Rattle.mcs_model.specs.Options.{◌>>=◌}
use Rattle.std.specs.Str.{bytes_eq}
use Rattle.std.specs.Str.Lines.{lines}
use Rattle.mcs_model.specs.TextLines.{as_line, words_of}
use Rattle.mcs_model.specs.declared.board.BoardParts.{BoardParts}
use Rattle.mcs_drive.specs.declared.marks.Mark.{Mark}
use Rattle.mcs_drive.specs.DrivenRuns.{InputLimits}
use Rattle.mcs_drive.specs.Opening.{holds_only_after_marks}
use Rattle.mcs_drive.specs.TrackedMachine.{Observer, TrackedMachine}
use Rattle.mcs_check.specs.declared.checking.Outcome.{Outcome}
use Rattle.mcs_check.specs.declared.conditions.Condition.{Condition}
use Rattle.mcs_check.specs.Conditions.{meets_none, observer_of}
use Rattle.mcs_prove.specs.declared.lines.QuestionLine.{QuestionLine}
use Rattle.mcs_prove.specs.declared.lines.QuestionLine.TheVariants as line
use Rattle.mcs_prove.specs.declared.lines.ListRole.{ListRole}
use Rattle.mcs_prove.specs.declared.lines.ListRole.TheVariants.{Never, Begin, End, Open}
use Rattle.mcs_prove.specs.declared.lines.TheConstants.{MAX_MEMORY}
use Rattle.mcs_prove.specs.declared.question.Section.{Section}
use Rattle.mcs_prove.specs.declared.question.Section.TheVariants.{Lines, Board, Program}
use Rattle.mcs_prove.specs.declared.question.TheConstants.{DEFAULT_PAUSE}
use Rattle.mcs_prove.specs.AllowedInputs.{AllowedInputs, all_inputs, limits_of}
use Rattle.mcs_prove.specs.MachineOfTexts.{IsProvedOf}
use Rattle.mcs_prove.specs.QuestionLines.{line_of}

-- A question as read so far. `never_lists`, `begins`, `ends` and `opens` are the complete lists of
-- conditions. `conditions` is the current list, which follows the last `never`, `begin`, `end` or
-- `open` line. `role` is the role of the current list. `inputs` are the inputs that the question
-- allows. `section` is the section to which the next line belongs. `has_prove_line` is true after
-- `prove`.
pub record QuestionSoFar : Type 0 where
  pub board : Option (List ℕ)
  pub program : Option (List ℕ)
  pub never_lists : List (List Condition)
  pub begins : List (List Condition)
  pub ends : List (List Condition)
  pub limit : Option ℕ
  pub opens : List (List Condition)
  pub marks : List Mark
  pub inputs : AllowedInputs
  pub role : ListRole
  pub conditions : Option (List Condition)
  pub max_states : ℕ
  pub max_entries : ℕ
  pub memory : ℕ
  pub pause : ℕ
  pub section : Section
  pub has_prove_line : Bool

abbrev pub empty_question : QuestionSoFar
empty_question = record {
  board = None;
  program = None;
  never_lists = [];
  begins = [];
  ends = [];
  limit = None;
  opens = [];
  marks = [];
  inputs = all_inputs;
  role = Never;
  conditions = None;
  max_states = 0;
  max_entries = 0;
  memory = MAX_MEMORY;
  pause = DEFAULT_PAUSE;
  section = Lines;
  has_prove_line = false;
}

-- a question after the current list of conditions is complete: `cs` is stored with the lists of its
-- role
abbrev pub with_list : QuestionSoFar → List Condition → ListRole → QuestionSoFar
with_list a cs Never = record a { never_lists = a.never_lists ++ cs ∷ []; conditions = None }
with_list a cs Begin = record a { begins = a.begins ++ cs ∷ []; conditions = None }
with_list a cs End = record a { ends = a.ends ++ cs ∷ []; conditions = None }
with_list a cs Open = record a { opens = a.opens ++ cs ∷ []; conditions = None }

abbrev pub with_list_stored : QuestionSoFar → Option (List Condition) → QuestionSoFar
with_list_stored a None = a
with_list_stored a (Some cs) = with_list a cs a.role

abbrev pub with_list_ended : QuestionSoFar → QuestionSoFar
with_list_ended a = with_list_stored a a.conditions

-- the question `a` if a line is valid (true), and None otherwise (false)
abbrev pub if_valid : Bool → QuestionSoFar → Option QuestionSoFar
if_valid true a = Some a
if_valid false a = None

-- a question after its board's text begins; None if the question already has this text
abbrev pub begin_board : QuestionSoFar → Option (List ℕ) → Option QuestionSoFar
begin_board a None = Some (record a { board = Some []; section = Board })
begin_board a (Some text) = None

-- a question after its program's text begins; None if the question already has this text
abbrev pub begin_program : QuestionSoFar → Option (List ℕ) → Option QuestionSoFar
begin_program a None = Some (record a { program = Some []; section = Program })
begin_program a (Some text) = None

-- a question with one more condition in the current list; None if no `never`, `begin`, `end` or
-- `open` line precedes the condition
abbrev pub with_condition : QuestionSoFar → Condition → Option (List Condition) → Option QuestionSoFar
with_condition a c None = None
with_condition a c (Some cs) = Some (record a { conditions = Some (cs ++ c ∷ []) })

-- a question with other allowed inputs
abbrev pub with_inputs : QuestionSoFar → AllowedInputs → QuestionSoFar
with_inputs a inputs = record a { inputs = inputs }

-- a question after a parsed line; None if the line is not allowed at this point
abbrev pub after_parsed_line : QuestionSoFar → QuestionLine → Option QuestionSoFar
after_parsed_line a line.Blank = Some a
after_parsed_line a (line.MaxStates n) = Some (record a { max_states = n })
after_parsed_line a (line.MaxEntries n) = Some (record a { max_entries = n })
after_parsed_line a (line.MaxMemory n) = Some (record a { memory = n })
after_parsed_line a (line.Pause n) = Some (record a { pause = n })
after_parsed_line a (line.TimeLimit n) = Some (record a { limit = Some n })
after_parsed_line a line.BoardText = begin_board a a.board
after_parsed_line a line.ProgramText = begin_program a a.program
after_parsed_line a (line.Conditions role) = Some (record (with_list_ended a) { conditions = Some []; role = role })
after_parsed_line a (line.OneCondition c) = with_condition a c a.conditions
after_parsed_line a (line.NextMark mark) = Some (record a { marks = a.marks ++ mark ∷ [] })
after_parsed_line a (line.Together n) = Some (with_inputs a (record a.inputs { together = Some n }))
after_parsed_line a (line.Wait n) = Some (with_inputs a (record a.inputs { wait = n }))
after_parsed_line a (line.Held n) = Some (with_inputs a (record a.inputs { held = n }))
after_parsed_line a line.Only = Some (with_inputs a (record a.inputs { is_restricted = true }))
after_parsed_line a (line.Pressable key) =
    Some (with_inputs a (record a.inputs { pressable = a.inputs.pressable ++ key ∷ [] }))
after_parsed_line a line.TestMayChange = Some (with_inputs a (record a.inputs { test_may_change = true }))
after_parsed_line a line.Prove = Some (record (with_list_ended a) { has_prove_line = true })

-- a question after the words of a line outside the two texts; None if the line is invalid or
-- follows `prove`
abbrev pub after_words : QuestionSoFar → List (List ℕ) → Option QuestionSoFar
after_words a words = if a.has_prove_line then None else line_of words >>= λ parsed. after_parsed_line a parsed

-- a text with one more line; None if there is no text
abbrev pub with_line : Option (List ℕ) → List ℕ → Option (List ℕ)
with_line text bytes = option_map (λ t. t ++ as_line bytes) text

abbrev pub is_end : List ℕ → Bool
is_end bytes = bytes_eq bytes (codes ".")

-- a question after a line of the given section; a line with a single dot ends a text
abbrev pub after_line_in : Section → QuestionSoFar → List ℕ → Option QuestionSoFar
after_line_in Lines a bytes = after_words a (words_of bytes)
after_line_in Board a bytes =
    Some (if is_end bytes then record a { section = Lines } else record a { board = with_line a.board bytes })
after_line_in Program a bytes =
    Some (if is_end bytes then record a { section = Lines } else record a { program = with_line a.program bytes })

abbrev pub after_line : QuestionSoFar → List ℕ → Option QuestionSoFar
after_line a bytes = after_line_in a.section a bytes

abbrev pub after_lines : QuestionSoFar → List (List ℕ) → Option QuestionSoFar
after_lines a [] = Some a
after_lines a (bytes ∷ rest) = after_line a bytes >>= λ b. after_lines b rest

-- the question that a text contains; None if a line is invalid
abbrev pub question_of_text : List ℕ → Option QuestionSoFar
question_of_text text = after_lines empty_question (lines text)

-- ---- the property of a question

-- true if the question has no stopwatch or a complete stopwatch. A complete stopwatch has a begin,
-- an end and a limit, and is not combined with sets of values.
abbrev pub is_stopwatch_complete_with : Option ℕ → QuestionSoFar → Bool
is_stopwatch_complete_with None a = length a.begins == 0 && length a.ends == 0
is_stopwatch_complete_with (Some limit) a = not (length a.begins == 0) && not (length a.ends == 0) && a.max_entries == 0

abbrev pub is_stopwatch_complete : QuestionSoFar → Bool
is_stopwatch_complete a = is_stopwatch_complete_with a.limit a

-- true if marks and `open` lists are both absent, or both present and not combined with sets of
-- values
abbrev pub are_marks_complete : QuestionSoFar → Bool
are_marks_complete a = if length a.marks == 0 then length a.opens == 0 else not (length a.opens == 0) && a.max_entries == 0

-- true if the stopwatch and the marks are each absent or complete
abbrev pub is_consistent : QuestionSoFar → Bool
is_consistent a = is_stopwatch_complete a && are_marks_complete a

-- the limits on the inputs that a question sets, for each board
abbrev pub limits_of_question : QuestionSoFar → BoardParts → InputLimits
limits_of_question a b = limits_of a.inputs b

-- the observer of a question's stopwatch and marks
abbrev pub observer_of_question : QuestionSoFar → Observer
observer_of_question a = observer_of a.begins a.ends a.opens a.marks

-- true if the stopwatch shows no more than its limit, or if there is no limit
abbrev pub is_within_limit : Option ℕ → TrackedMachine → Bool
is_within_limit None s = true
is_within_limit (Some limit) s = nat_le s.2.elapsed limit

-- the property of a question. It is true if no list in `never_lists` has all its conditions met and
-- the stopwatch is within its limit. In addition, the observer's condition must not hold before all
-- marks were seen.
abbrev pub keeps_property : Observer → List (List Condition) → Option ℕ → TrackedMachine → Bool
keeps_property w never_lists limit s = meets_none never_lists s && is_within_limit limit s && holds_only_after_marks w s

-- holds if the promise of an outcome is true of the machine that two texts define, for these limits
-- on the inputs, this observer and this property
abbrev pub IsPropertyProvedOf : List ℕ → List ℕ → (BoardParts → InputLimits) → Observer → List (List Condition) → Option ℕ → Outcome → Type 0
IsPropertyProvedOf board program limits w never_lists limit outcome =
    IsProvedOf board program limits w (keeps_property w never_lists limit) outcome

-- holds if a text contains a complete question, and the promise of an outcome is true for the
-- property of this question and for the inputs that this question allows
pub record IsAnswerTo (text : List ℕ) (outcome : Outcome) : Type 0 where
  pub question : QuestionSoFar
  pub board : List ℕ
  pub program : List ℕ
  pub spells : question_of_text text ≡ Some question
  pub has_prove_line : question.has_prove_line ≡ true
  pub is_consistent : is_consistent question ≡ true
  pub has_board : question.board ≡ Some board
  pub has_program : question.program ≡ Some program
  pub proved : IsPropertyProvedOf board program (limits_of_question question) (observer_of_question question) question.never_lists question.limit outcome
