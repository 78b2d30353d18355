-- The line and the exit status of an answer.
use Rattle.std.specs.Prelude.{◌≡◌, ◌==◌, ◌+◌, ◌*◌, ◌/◌, ℕ, zero, suc, List, [], ◌++◌, codes, length, nat_lt, slice_index, Result, Ok, Err, IfOk, if◌then◌else◌}
use Rattle.std.specs.Fmt.{decimal}
use Rattle.std.specs.List.{flat_map}
use Rattle.mcs_model.specs.declared.refusal_numbers.TheConstants.{NO_MEMORY, NO_ROM}
use Rattle.mcs_source.specs.RefusalNumbers.{source_fault_number}
use Rattle.mcs_wiring.specs.RefusalNumbers.{wiring_fault_number}
use Rattle.mcs_drive.specs.DrivenRuns.{Levels}
use Rattle.mcs_check.specs.declared.checking.Outcome.{Outcome}
use Rattle.mcs_check.specs.declared.checking.Outcome.TheVariants as outcome
use Rattle.mcs_prove.specs.declared.refusal.Refusal.{Refusal}
use Rattle.mcs_prove.specs.declared.refusal.Refusal.TheVariants as refusal
use Rattle.mcs_prove.specs.Questions.{IsAnswerTo}

-- a space and a number in decimal
abbrev pub space_and_decimal : ℕ → List ℕ
space_and_decimal n = codes " " ++ decimal n

-- the level at index `i` of a list that has the levels of all keys, row by row, and then the level
-- of TEST; 0 beyond its end
abbrev pub level_at : Levels → ℕ → ℕ
level_at l i = if nat_lt i (length l.keys) then slice_index l.keys i else if i == length l.keys then l.test else 0

-- the number of digits that encode the levels of all keys and TEST. Each digit encodes four levels.
abbrev pub digit_count : Levels → ℕ
digit_count l = length l.keys / 4 + 1

-- digit `d` of those that encode the levels of all keys and TEST. Its lowest bit is the first of
-- its four levels.
abbrev pub digit_at : Levels → ℕ → ℕ
digit_at l d = level_at l (4 * d) + 2 * level_at l (4 * d + 1) + 4 * level_at l (4 * d + 2) + 8 * level_at l (4 * d + 3)

-- the hexadecimal digit of a number below 16
abbrev pub hex_digit : ℕ → List ℕ
hex_digit n =
    if n == 10 then codes "a"
    else if n == 11 then codes "b"
    else if n == 12 then codes "c"
    else if n == 13 then codes "d"
    else if n == 14 then codes "e"
    else if n == 15 then codes "f"
    else decimal n

-- the first digits that encode the levels of all keys and TEST, in lower-case hexadecimal
abbrev pub first_digits : Levels → ℕ → List ℕ
first_digits l zero = []
first_digits l (suc n) = first_digits l n ++ hex_digit (digit_at l n)

-- a space and a word with all digits that encode the levels of all keys and TEST
abbrev pub space_and_word : Levels → List ℕ
space_and_word l = codes " " ++ first_digits l (digit_count l)

abbrev pub outcome_line : Outcome → List ℕ
outcome_line (outcome.Holds states) = codes "holds" ++ space_and_decimal states
outcome_line (outcome.MayFail values) = codes "may fail" ++ flat_map space_and_decimal values.items
outcome_line (outcome.MayFailWith steps) = codes "may fail with" ++ flat_map space_and_word steps.items
outcome_line outcome.TooMany = codes "too many"
outcome_line (outcome.NoMemory states) = codes "no room" ++ space_and_decimal states
outcome_line outcome.GaveUp = codes "gave up"

abbrev pub refusal_line : Refusal → List ℕ
refusal_line refusal.NoMemory = codes "no" ++ space_and_decimal NO_MEMORY
refusal_line (refusal.Wiring fault) = codes "no" ++ space_and_decimal (wiring_fault_number fault)
refusal_line (refusal.Program line fault) =
    codes "no" ++ (space_and_decimal (source_fault_number fault) ++ space_and_decimal line)
refusal_line refusal.NoRom = codes "no" ++ space_and_decimal NO_ROM
refusal_line (refusal.Line line) = codes "wrong line" ++ space_and_decimal line
refusal_line refusal.Incomplete = codes "no question"

-- the exit status of a refusal: 2 if the question is invalid or incomplete, 3 if the board's text
-- or the program's text is rejected or memory runs out
abbrev pub refusal_status : Refusal → ℕ
refusal_status (refusal.Line line) = 2
refusal_status refusal.Incomplete = 2
refusal_status _ = 3

abbrev pub line_of_answer : Result Outcome Refusal → List ℕ
line_of_answer (Ok found) = outcome_line found
line_of_answer (Err why) = refusal_line why

abbrev pub status_of_answer : Result Outcome Refusal → ℕ
status_of_answer (Ok found) = 0
status_of_answer (Err why) = refusal_status why

-- holds if a line and an exit status are those of a refusal, or those of an outcome whose promise
-- is true for the question in the text
pub record AnswersQuestion (text line : List ℕ) (status : ℕ) : Type 0 where
  pub found : Result Outcome Refusal
  pub answer_line : line ≡ line_of_answer found
  pub exit_status : status ≡ status_of_answer found
  pub proved : IfOk found (IsAnswerTo text)
