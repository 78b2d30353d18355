-- The answer to `map`: a header row, a row for each line of the source, and a row for each name.
-- (Defined by Fethsaim, not by Intel.)
use Rattle.std.specs.Prelude.{ℕ, ◌+◌, List, [], ◌∷◌, ◌++◌, length, map, codes, nat_lt, if◌then◌else◌}
use Rattle.std.specs.Fmt.{decimal}
use Rattle.mcs_model.specs.QueryText.{address_text}
use Rattle.mcs_model.specs.TextLines.{as_line, text_of}
use Rattle.mcs_source.specs.declared.survey.Span.{Span}
use Rattle.mcs_source.specs.Survey.{Survey}

-- an address from 000 to FFF, or `1000` for the end of the ROM
abbrev pub address_or_end_text : ℕ → List ℕ
address_or_end_text at = if nat_lt at 4096 then address_text at else codes "1000"

-- the header row: the number of line rows and the number of name rows
abbrev pub header_row : ℕ → ℕ → List ℕ
header_row lines names = codes "map lines " ++ decimal lines ++ codes " names " ++ decimal names

-- the row of a source line: the line number, the address of the line, and the number of bytes that
-- the line emits
abbrev pub line_row : ℕ → Span → List ℕ
line_row number s =
    codes "line " ++ decimal number ++ codes " " ++ address_or_end_text s.at ++ codes " " ++ decimal s.size

-- the rows of consecutive source lines; `number` is the number of the first line
abbrev pub line_rows : ℕ → List Span → List (List ℕ)
line_rows number [] = []
line_rows number (s ∷ spans) = line_row number s ∷ line_rows (number + 1) spans

-- the row of a name: the name and its value
abbrev pub name_row : List ℕ × ℕ → List ℕ
name_row name = codes "name " ++ name.0 ++ codes " " ++ address_or_end_text name.1

-- the answer to `map` for a survey; lines are numbered from 1
unfoldable pub survey_text : Survey → List ℕ
survey_text s =
    as_line (header_row (length s.spans) (length s.names))
    ++ text_of (line_rows 1 s.spans)
    ++ text_of (map name_row s.names)
