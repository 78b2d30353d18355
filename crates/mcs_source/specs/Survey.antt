-- The address of each source line, the number of bytes that the line emits, and the values of the
-- names. (Defined by Fethsaim, not by Intel.) Lines are numbered from 0, as in `Assembly`.
use Rattle.std.specs.Prelude.{ℕ, List, length, map, Option, Result}
use Rattle.std.specs.Result.{result_map_both}
use Rattle.std.specs.List.{range_with_len}
use Rattle.mcs_source.specs.declared.fault.SourceFault.{SourceFault}
use Rattle.mcs_source.specs.declared.survey.Span.{Span}
use Rattle.mcs_source.specs.Lines.{SourceLine}
use Rattle.mcs_source.specs.Assembly.{Names, read, address_of, all_names, line_pairs, assembly_of_text}
use Rattle.mcs_model.specs.TextLines.{lines_of}

-- the span of line `i`: the address at which the line starts, and the number of bytes that it emits
abbrev pub span : List (Option SourceLine) → Names → ℕ → Span
span lines names i = record { at = address_of lines i; size = length (line_pairs lines names i) }

-- the spans of the lines before line `i`
unfoldable pub spans_before : List (Option SourceLine) → Names → ℕ → List Span
spans_before lines names i = map (span lines names) (range_with_len 0 i)

-- the survey of a text without an error: the span of each line, and the names with their values in
-- the order of the lines that define them
pub record Survey : Type 0 where
  pub spans : List Span
  pub names : Names

-- the survey of parsed lines that have no error
abbrev pub survey_of : List (Option SourceLine) → Survey
survey_of lines = record {
  spans = spans_before lines (all_names lines) (length lines);
  names = all_names lines;
}

-- the survey of a text that assembles, or the first error of a text that does not, as in
-- `assembly_of_text`
abbrev pub survey_of_text : List ℕ → Result Survey (ℕ × SourceFault)
survey_of_text text =
    result_map_both (λ pairs. survey_of (read (lines_of text))) (λ f. f) (assembly_of_text text)
