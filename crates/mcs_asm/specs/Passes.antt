-- Definitions for the contracts of the two passes. Public contracts depend only on
-- `FirstPassState`, `first_pass_start` and `first_pass_after_line`, through the module `Errors`.
use Rattle.std.specs.Prelude.{◌≡◌, ℕ, ◌+◌, List, [], ◌∷◌, ◌++◌, length, Option, Some, None, Result, Ok, Err, false, if◌then◌else◌}
use Rattle.mcs_source.specs.declared.fault.SourceFault.{SourceFault}
use Rattle.mcs_source.specs.declared.fault.SourceFault.TheVariants.{Overlap}
use Rattle.mcs_source.specs.Lines.{SourceLine, Code, Define}
use Rattle.mcs_source.specs.Assembly.{Names, assembly_of_text, bytes_or_none, address_of, names_before, address_after_line, first_pass_line_fault, earliest_first_pass_fault, earliest_second_pass_fault, has_bad_number, passes_end, unless_fault, line_bytes, pairs_before}
use Rattle.mcs_model.specs.Images.{from_address, overlaps}
use Rattle.mcs_asm.specs.declared.fault.FaultKind.{FaultKind}
use Rattle.mcs_asm.specs.declared.fault.FaultKind.TheVariants.{NoMemory, Refused}
use Rattle.mcs_asm.specs.declared.fault.AsmFault.{AsmFault}
use Rattle.mcs_source.specs.declared.survey.Span.{Span}
use Rattle.mcs_source.specs.Survey.{Survey, spans_before, survey_of_text}
use Rattle.mcs_asm.specs.ByteCells.{HoldsPairs}
use Rattle.mcs_asm.specs.View.{IsErrorAtLine}

-- ---- the first pass

-- the state of the first pass: the address of the next statement, and the names defined so far
pub record FirstPassState : Type 0 where
  pub at : ℕ
  pub names : Names

abbrev pub first_pass_start : FirstPassState
first_pass_start = record { at = 0; names = [] }

-- the state of the first pass after the lines before line `i`
abbrev pub first_pass_before : List (Option SourceLine) → ℕ → FirstPassState
first_pass_before lines i = record { at = address_of lines i; names = names_before lines i }

abbrev pub names_with_label : Option (List ℕ) → ℕ → Names → Names
names_with_label None at names = names
names_with_label (Some w) at names = names ++ (w, at) ∷ []

abbrev pub names_with_line : Option SourceLine → ℕ → Names → Names
names_with_line (Some (Code label s)) at names = names_with_label label at names
names_with_line (Some (Define w n)) at names = names ++ (w, n) ∷ []
names_with_line None at names = names

-- the state of the first pass after one more line
abbrev pub first_pass_after_line : FirstPassState → Option SourceLine → FirstPassState
first_pass_after_line b line = record { at = address_after_line line b.at; names = names_with_line line b.at b.names }

-- the state of the first pass after one more line, or the first-pass error of that line
abbrev pub first_pass_with_line : FirstPassState → Option SourceLine → Result FirstPassState SourceFault
first_pass_with_line b line = unless_fault (first_pass_line_fault b.at b.names line) (Ok (first_pass_after_line b line))

-- ---- the second pass

-- the state of the second pass: the address of the next statement, and the (address, byte) pairs
-- emitted so far
pub record SecondPassState : Type 0 where
  pub at : ℕ
  pub pairs : List (ℕ × ℕ)

-- the state of the second pass after the lines before line `i`, given the values of all names
abbrev pub second_pass_before : List (Option SourceLine) → Names → ℕ → SecondPassState
second_pass_before lines names i = record { at = address_of lines i; pairs = pairs_before lines names i }

-- The state of the second pass after a line with the given bytes, or an overlap error if these
-- bytes overlap earlier bytes. `next` is the address of the next statement. If the last argument is
-- an error, the result is this error.
abbrev pub second_pass_with_bytes : SecondPassState → ℕ → Result (List ℕ) SourceFault → Result SecondPassState SourceFault
second_pass_with_bytes s next (Err f) = Err f
second_pass_with_bytes s next (Ok bytes) =
    if overlaps s.pairs s.at (length bytes) then Err Overlap
    else Ok (record { at = next; pairs = s.pairs ++ from_address s.at bytes })

abbrev pub second_pass_with_line : Names → SecondPassState → Option SourceLine → Result SecondPassState SourceFault
second_pass_with_line names s line = second_pass_with_bytes s (address_after_line line s.at) (line_bytes s.at names line)

-- Holds for a line that parses and, at address `at`, does not pass the end of the ROM. The number
-- in an `ORG` or `NAME = NUMBER` must also be below 4096.
abbrev pub HasValidNumberAndAddress : ℕ → Option SourceLine → Type 0
HasValidNumberAndAddress at None = ⊥
HasValidNumberAndAddress at (Some line) = (has_bad_number line ≡ false) × (passes_end line at ≡ false)

-- ---- The results for a line and for a pass. If allocation fails, nothing is stated about the
-- text.

-- Holds if `first` is the given error with the line number `line`. If allocation failed, holds if
-- `line` is 0.
abbrev pub IsFirstError : FaultKind → ℕ → Option (ℕ × SourceFault) → Type 0
IsFirstError NoMemory line first = line ≡ 0
IsFirstError (Refused f) line first = first ≡ Some (line, f)

-- Holds if the result and `wanted` both succeed and the value in `wanted` is `new`, or if the
-- result and `wanted` are the same error. Also holds if allocation failed.
abbrev pub MatchesNewValue : {A B : Type 0} → Result B FaultKind → A → Result A SourceFault → Type 0
MatchesNewValue (Ok u) new wanted = wanted ≡ Ok new
MatchesNewValue (Err NoMemory) new wanted = Unit {0}
MatchesNewValue (Err (Refused f)) new wanted = wanted ≡ Err f

-- Holds if no line has a first-pass error and the result is the state after all lines, or if the
-- result is the earliest first-pass error.
abbrev pub IsFirstPassResult : Result FirstPassState AsmFault → List (Option SourceLine) → Type 0
IsFirstPassResult (Ok b) lines = (earliest_first_pass_fault lines ≡ None) × (b ≡ first_pass_before lines (length lines))
IsFirstPassResult (Err f) lines = IsFirstError f.kind f.line (earliest_first_pass_fault lines)

-- Holds if the result agrees with `wanted`. On success, `at` must be the next address in `wanted`,
-- and the cells must contain the pairs in `wanted`. An error must be the error in `wanted`. Also
-- holds if allocation failed.
abbrev pub MatchesStateWithAddedBytes : Result (Unit {0}) FaultKind → ℕ → List (Option ℕ)
    → Result SecondPassState SourceFault → Type 0
MatchesStateWithAddedBytes (Ok u) at cells wanted =
    (s : SecondPassState) × (wanted ≡ Ok s) × (s.at ≡ at) × HoldsPairs cells s.pairs
MatchesStateWithAddedBytes (Err NoMemory) at cells wanted = Unit {0}
MatchesStateWithAddedBytes (Err (Refused f)) at cells wanted = wanted ≡ Err f

-- the span of a line at address `at`; its size is the number of bytes that the line emits, or 0 if
-- the line has an error
abbrev pub span_at : ℕ → Result (List ℕ) SourceFault → Span
span_at at r = record { at = at; size = length (bytes_or_none r) }

-- Holds if the result is the survey of all lines, together with cells that contain their bytes, or
-- the earliest second-pass error.
abbrev pub IsSecondPassResult : Result (Survey × List (Option ℕ)) AsmFault → List (Option SourceLine)
    → Names → Type 0
IsSecondPassResult (Ok found) lines names =
    (earliest_second_pass_fault lines names ≡ None)
    × (found.0 ≡ record { spans = spans_before lines names (length lines); names = names })
    × HoldsPairs found.1 (pairs_before lines names (length lines))
IsSecondPassResult (Err f) lines names = IsFirstError f.kind f.line (earliest_second_pass_fault lines names)

-- ---- both passes

-- Holds if the result is the survey of the text, together with cells that contain the bytes of the
-- text, or the error of the text.
abbrev pub IsResultOfBothPasses : Result (Survey × List (Option ℕ)) AsmFault → List ℕ → Type 0
IsResultOfBothPasses (Ok found) text =
    (survey_of_text text ≡ Ok found.0)
    × ((pairs : List (ℕ × ℕ)) × (assembly_of_text text ≡ Ok pairs) × HoldsPairs found.1 pairs)
IsResultOfBothPasses (Err f) text = IsErrorAtLine f.kind f.line (assembly_of_text text)

-- ---- the number of a line

-- Holds if `line` is `index` plus 1, or 0 if allocation failed.
abbrev pub IsLineNumber : FaultKind → ℕ → ℕ → Type 0
IsLineNumber NoMemory index line = line ≡ 0
IsLineNumber (Refused f) index line = line ≡ index + 1

-- Holds if the final result equals `line_result`, the result of line `index`, except that an error
-- also has its line number.
abbrev pub HasLineNumberAdded : ℕ → Result (Unit {0}) FaultKind → Result (Unit {0}) AsmFault → Type 0
HasLineNumberAdded index line_result (Ok u) = line_result ≡ Ok u
HasLineNumberAdded index line_result (Err f) = (line_result ≡ Err f.kind) × IsLineNumber f.kind index f.line
