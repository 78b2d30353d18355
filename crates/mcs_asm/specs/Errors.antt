-- The errors that are reported for a source text, at most one for each line. When later lines are
-- checked, a line with a first-pass error counts as empty, and a line with a second-pass error
-- emits no bytes. (Defined by Fethsaim, not by Intel.)
use Rattle.std.specs.Prelude.{◌≡◌, ℕ, zero, suc, ◌+◌, List, [], ◌∷◌, ◌++◌, length, take, map, codes, Option, Some, None, option_map, Result, Ok, Err}
use Rattle.std.specs.List.{filter_map, range_with_len}
use Rattle.std.specs.Fmt.{decimal}
use Rattle.mcs_model.specs.TextLines.{as_line, lines_of, text_of}
use Rattle.mcs_source.specs.Assembly.{Names, read, ith_line, address_of, all_names, first_pass_line_fault, second_pass_line_fault, line_bytes, line_pairs, bytes_or_none}
use Rattle.mcs_model.specs.Images.{from_address}
use Rattle.mcs_asm.specs.ByteCells.{HoldsPairs}
use Rattle.mcs_source.specs.Lines.{SourceLine}
use Rattle.mcs_source.specs.RefusalNumbers.{source_fault_number}
use Rattle.mcs_source.specs.declared.fault.SourceFault.{SourceFault}
use Rattle.mcs_asm.specs.declared.all_errors.LineError.{LineError}
use Rattle.mcs_asm.specs.declared.all_errors.TheConstants.{MAX_REPORTED_ERRORS}
use Rattle.mcs_asm.specs.Passes.{FirstPassState, first_pass_start, first_pass_after_line}

-- ---- first-pass errors: a line with an error defines no name and does not change the address

abbrev pub unless_error : {A : Type 0} → Option SourceFault → A → A → A
unless_error (Some f) old new = old
unless_error None old new = new

-- the next address and the defined names after the lines before line `i`; a line with an error is
-- skipped
unfoldable pub first_pass_skipping_errors : List (Option SourceLine) → ℕ → FirstPassState
first_pass_skipping_errors lines zero = first_pass_start
first_pass_skipping_errors lines (suc i) =
    unless_error (first_pass_line_fault (first_pass_skipping_errors lines i).at (first_pass_skipping_errors lines i).names (ith_line lines i))
    (first_pass_skipping_errors lines i) (first_pass_after_line (first_pass_skipping_errors lines i) (ith_line lines i))

-- the first-pass error of line `i`, if it has one
unfoldable pub first_pass_error : List (Option SourceLine) → ℕ → Option SourceFault
first_pass_error lines i =
    first_pass_line_fault (first_pass_skipping_errors lines i).at (first_pass_skipping_errors lines i).names (ith_line lines i)

-- ---- second-pass errors: a line with an error emits no bytes; its address and its name remain

-- the (address, byte) pairs that the lines before line `i` emit; a line with an error emits none
unfoldable pub pairs_skipping_errors : List (Option SourceLine) → Names → ℕ → List (ℕ × ℕ)
pairs_skipping_errors lines names zero = []
pairs_skipping_errors lines names (suc i) =
    unless_error (second_pass_line_fault (address_of lines i) (pairs_skipping_errors lines names i)
    (line_bytes (address_of lines i) names (ith_line lines i)))
    (pairs_skipping_errors lines names i) (pairs_skipping_errors lines names i ++ line_pairs lines names i)

-- the second-pass error of line `i`, if it has one
unfoldable pub second_pass_error : List (Option SourceLine) → Names → ℕ → Option SourceFault
second_pass_error lines names i =
    second_pass_line_fault (address_of lines i) (pairs_skipping_errors lines names i)
    (line_bytes (address_of lines i) names (ith_line lines i))

-- Holds if the result is the second-pass error of a line at address `at` with the given bytes, or
-- `None` if the line has no such error. `pairs` are the pairs of earlier lines. The cells must
-- contain these pairs and, if the line has no error, also the bytes of the line. If allocation
-- fails, nothing is stated. Only contracts of private functions cite this definition.
abbrev pub ReportsError : {E : Type 0} → Result (Option SourceFault) E → ℕ → List (ℕ × ℕ)
    → Result (List ℕ) SourceFault → List (Option ℕ) → Type 0
ReportsError (Err e) at pairs bytes cells = Unit {0}
ReportsError (Ok error) at pairs bytes cells =
    (error ≡ second_pass_line_fault at pairs bytes)
    × HoldsPairs cells (unless_error error pairs (pairs ++ from_address at (bytes_or_none bytes)))

-- ---- the whole text

-- the error of line `i`, with the line number `i + 1`
abbrev pub error_at : ℕ → SourceFault → LineError
error_at i f = record { line = i + 1; fault = f }

-- the errors that `error` gives for the lines before line `i`, in line order
unfoldable pub errors_before : (ℕ → Option SourceFault) → ℕ → List LineError
errors_before error i = filter_map (λ j. option_map (error_at j) (error j)) (range_with_len 0 i)

abbrev pub first_pass_errors : List (Option SourceLine) → List LineError
first_pass_errors lines = errors_before (first_pass_error lines) (length lines)

abbrev pub second_pass_errors : List (Option SourceLine) → List LineError
second_pass_errors lines = errors_before (second_pass_error lines (all_names lines)) (length lines)

abbrev pub errors_or_else : List LineError → List LineError → List LineError
errors_or_else [] other = other
errors_or_else (e ∷ es) other = e ∷ es

-- the errors that are reported: at most the first `MAX_REPORTED_ERRORS`
abbrev pub reported_errors : List LineError → List LineError
reported_errors errors = take MAX_REPORTED_ERRORS errors

-- the first-pass errors or, if there are none, the second-pass errors
abbrev pub errors_of : List (Option SourceLine) → List LineError
errors_of lines =
    errors_or_else (reported_errors (first_pass_errors lines)) (reported_errors (second_pass_errors lines))

abbrev pub errors_of_text : List ℕ → List LineError
errors_of_text text = errors_of (read (lines_of text))

-- ---- The law: the first error in the list is the error that the assembly reports. If the list is
-- empty, the assembly succeeds.

abbrev pub first_listed_error : List LineError → Option (ℕ × SourceFault)
first_listed_error [] = None
first_listed_error (e ∷ es) = Some (e.line, e.fault)

abbrev pub assembly_error : {A : Type 0} → Result A (ℕ × SourceFault) → Option (ℕ × SourceFault)
assembly_error (Ok x) = None
assembly_error (Err at) = Some at

-- ---- the report on the errors

abbrev pub error_row : LineError → List ℕ
error_row e = codes "error " ++ decimal e.line ++ codes " " ++ decimal (source_fault_number e.fault)

abbrev pub errors_header : ℕ → List ℕ
errors_header count = codes "errors " ++ decimal count

unfoldable pub errors_text : List LineError → List ℕ
errors_text errors = as_line (errors_header (length errors)) ++ text_of (map error_row errors)
