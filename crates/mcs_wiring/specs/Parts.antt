-- The part of a board text that has an error, and the report on a text. The report says that the
-- text is valid, or gives the refusal number, a line number (`line_of_part`) and the part. If the
-- text is not TOML, the report has no part, and the line number is `line_after_toml`. (Defined by
-- Fethsaim, not by Intel.)
use Rattle.std.specs.Prelude.{ℕ, ◌+◌, ◌-◌, Bool, true, false, not, ◌&&◌, ◌||◌, List, [], ◌∷◌, ◌++◌, length, take, find, codes, Option, Some, None, is_some, is_none, option_map, Result, Ok, Err, nat_lt, nat_le, ◌==◌, if◌then◌else◌}
use Rattle.std.specs.List.{list_any, list_all, slice_split, range_with_len}
use Rattle.std.specs.Option.{option_or}
use Rattle.std.specs.Char.{is_ascii_digit, is_ascii_uppercase, is_ascii_lowercase}
use Rattle.std.specs.Fmt.{decimal}
use Rattle.toml.specs.Data.{Data, table, Members, get_member, as_str}
use Rattle.toml.specs.Parse.{parse_document}
use Rattle.mcs_model.specs.declared.board.BoardParts.{BoardParts}
use Rattle.mcs_model.specs.declared.board.ChainPart.{ChainPart}
use Rattle.mcs_model.specs.declared.board.KeyMatrix.{KeyMatrix}
use Rattle.mcs_model.specs.declared.board.Line.{Line}
use Rattle.mcs_model.specs.declared.limits.TheConstants.{ROMS, BANKS, BANK_CHIPS, CHAINS, CHAIN_BITS, CHAIN_CHIPS, KEY_COLUMNS, KEY_ROWS, LAMPS}
use Rattle.mcs_model.specs.Boards.{chain_bits, chain_count, is_on_board, is_input_line, is_output_line}
use Rattle.mcs_model.specs.Options.{◌>>=◌}
use Rattle.mcs_model.specs.TextLines.{as_line, is_line_feed}
use Rattle.mcs_wiring.specs.declared.fault.WiringFault.{WiringFault}
use Rattle.mcs_wiring.specs.declared.fault.WiringFault.TheVariants as fault
use Rattle.mcs_wiring.specs.declared.sections.Flaw.{Flaw}
use Rattle.mcs_wiring.specs.declared.sections.Flaw.TheVariants.{UnknownKey, MissingKey, BadValue}
use Rattle.mcs_wiring.specs.declared.sections.Numbered.{Numbered}
use Rattle.mcs_wiring.specs.declared.sections.Section.{Section}
use Rattle.mcs_wiring.specs.declared.sections.Section.TheVariants.{Rom, Ram, Chain, Keys, Lamp}
use Rattle.mcs_wiring.specs.declared.flawed_part.LineFlaw.{LineFlaw}
use Rattle.mcs_wiring.specs.declared.flawed_part.LineFlaw.TheVariants.{Missing, NotOutput, NotInput, Input}
use Rattle.mcs_wiring.specs.Flaws.{has_flaw}
use Rattle.mcs_wiring.specs.Format.{sections, section_key, table_keys, is_board_key, is_table_key}
use Rattle.mcs_wiring.specs.LineNames.{masks_named}
use Rattle.mcs_wiring.specs.RefusalNumbers.{wiring_fault_number}
use Rattle.mcs_wiring.specs.Wiring.{keys_of, section_values, values_at, number_at, line_at, has_bad_columns, has_value_that_is_not_array, column_values, roms_of, rams_of, parts_in, board_of_table}

-- A location in a board text: a top-level key, the value at a section's key, or one of the
-- section's tables. Tables are numbered from 1; the key matrix has no number. `key` is the
-- top-level key or, in a table, the key that has the error, if any.
pub record Part : Type 0 where
  pub section : Option Section
  pub number : Option ℕ
  pub key : Option (List ℕ)

abbrev pub part_at_key : List ℕ → Part
part_at_key key = record { section = None; number = None; key = Some key }

abbrev pub part_at_section : Section → Part
part_at_section s = record { section = Some s; number = None; key = None }

abbrev pub table_number : Section → ℕ → Option ℕ
table_number Keys i = None
table_number s i = Some (i + 1)

-- the part for the table with index `i`, from 0, in a section; `key` is the key that has the error,
-- if any
abbrev pub part_at_table : Section → ℕ → Option (List ℕ) → Part
part_at_table s i key = record { section = Some s; number = table_number s i; key = key }

-- ---- errors 21 (unknown key), 22 (missing key) and 23 (bad value): the first table that has the
-- flaw, and the first key to which the flaw applies

abbrev pub first_unknown_table_key : Section → Members → Option (List ℕ)
first_unknown_table_key s ms = find (λ key. not (is_table_key s key)) (keys_of ms)

abbrev pub first_missing_key : Section → Members → Option (List ℕ)
first_missing_key s ms = find (λ key. is_none (get_member key ms)) (table_keys s)

-- the key if the condition is true, otherwise `next`
abbrev pub key_if_bad : Bool → List ℕ → Option (List ℕ) → Option (List ℕ)
key_if_bad true key next = Some key
key_if_bad false key next = next

abbrev pub first_bad_key : Section → Members → Option (List ℕ)
first_bad_key Rom ms =
    key_if_bad (is_none (number_at (codes "chip") 0 (ROMS - 1) ms)) (codes "chip")
    (key_if_bad (is_none (get_member (codes "port") ms >>= as_str >>= masks_named)) (codes "port") None)
first_bad_key Ram ms =
    key_if_bad (is_none (number_at (codes "bank") 0 (BANKS - 1) ms)) (codes "bank")
    (key_if_bad (is_none (number_at (codes "chips") 1 BANK_CHIPS ms)) (codes "chips") None)
first_bad_key Chain ms =
    key_if_bad (is_none (line_at (codes "clock") ms)) (codes "clock")
    (key_if_bad (is_none (line_at (codes "data") ms)) (codes "data")
    (key_if_bad (is_none (number_at (codes "chips") 1 CHAIN_CHIPS ms)) (codes "chips") None))
first_bad_key Keys ms =
    key_if_bad (is_none (number_at (codes "chain") 0 (CHAINS - 1) ms)) (codes "chain")
    (key_if_bad (is_none (number_at (codes "first") 0 (CHAIN_BITS - 1) ms)) (codes "first")
    (key_if_bad (is_none (number_at (codes "rows") 1 KEY_ROWS ms)) (codes "rows")
    (key_if_bad (has_bad_columns ms) (codes "columns") None)))
first_bad_key Lamp ms = key_if_bad (is_none (line_at (codes "line") ms)) (codes "line") None

-- the first key to which the flaw applies in a table of a section
abbrev pub flawed_key_in_table : Flaw → Section → Members → Option (List ℕ)
flawed_key_in_table UnknownKey s ms = first_unknown_table_key s ms
flawed_key_in_table MissingKey s ms = first_missing_key s ms
flawed_key_in_table BadValue s ms = first_bad_key s ms

abbrev pub first_flawed_key : Flaw → Section → Data → Option (List ℕ)
first_flawed_key f s (table ms) = flawed_key_in_table f s ms
first_flawed_key f s d = None

-- the part for the first item in the list that has the flaw; the list begins with entry `i` of the
-- section
abbrev pub first_flawed_from : Flaw → Section → ℕ → List Data → Option Part
first_flawed_from f s i [] = None
first_flawed_from f s i (d ∷ ds) =
    if has_flaw f s d then Some (part_at_table s i (first_flawed_key f s d)) else first_flawed_from f s (i + 1) ds

abbrev pub first_flawed_in : Flaw → Members → Section → Option Part
first_flawed_in f ms s = first_flawed_from f s 0 (section_values s ms)

-- the first part that `part` returns for the sections, in list order, or `None` if it returns no
-- part
abbrev pub first_part_of_sections : (Section → Option Part) → List Section → Option Part
first_part_of_sections part [] = None
first_part_of_sections part (s ∷ ss) = option_or (part s) (first_part_of_sections part ss)

abbrev pub flawed_part : Flaw → Members → Option Part
flawed_part f ms = first_part_of_sections (first_flawed_in f ms) sections

abbrev pub unknown_key_part : Members → Option Part
unknown_key_part ms =
    option_or (option_map part_at_key (find (λ key. not (is_board_key key)) (keys_of ms)))
    (flawed_part UnknownKey ms)

abbrev pub bad_value_part : Members → Option Part
bad_value_part ms =
    option_or (option_map part_at_section (find (has_value_that_is_not_array ms) sections)) (flawed_part BadValue ms)

-- ---- error 27 (too many parts): the first table beyond the limit or, for columns, the key
-- `columns`

abbrev pub part_if : Bool → Part → Option Part → Option Part
part_if true part next = Some part
part_if false part next = next

abbrev pub excess_part : Members → Option Part
excess_part ms =
    part_if (nat_lt ROMS (length (values_at (codes "rom") ms))) (part_at_table Rom ROMS None)
    (part_if (nat_lt BANKS (length (values_at (codes "ram") ms))) (part_at_table Ram BANKS None)
    (part_if (nat_lt CHAINS (length (values_at (codes "chain") ms))) (part_at_table Chain CHAINS None)
    (part_if (nat_lt KEY_COLUMNS (length (column_values ms))) (part_at_table Keys 0 (Some (codes "columns")))
    (part_if (nat_lt LAMPS (length (values_at (codes "lamp") ms))) (part_at_table Lamp LAMPS None) None))))

-- ---- error 24: the first table with the same chip or bank number as an earlier table

-- the index of the first part whose number is in `seen` or belongs to an earlier part of the list;
-- the list begins with the part at index `i`
abbrev pub first_repeated_from : {A : Type 0} → List ℕ → ℕ → List (Numbered A) → Option ℕ
first_repeated_from seen i [] = None
first_repeated_from seen i (p ∷ ps) =
    if list_any (λ n. n == p.number) seen then Some i
    else first_repeated_from (p.number ∷ seen) (i + 1) ps

abbrev pub double_part_in : {A B : Type 0} → List (Numbered A) → List (Numbered B) → Option Part
double_part_in roms rams =
    option_or (option_map (λ i. part_at_table Rom i (Some (codes "chip"))) (first_repeated_from [] 0 roms))
    (option_map (λ i. part_at_table Ram i (Some (codes "bank"))) (first_repeated_from [] 0 rams))

abbrev pub double_chip_part : Members → Option Part
double_chip_part ms = double_part_in (roms_of ms) (rams_of ms)

-- ---- errors 25 (a line, a chain or a chain bit that the board lacks) and 26 (wrong direction):
-- the first table with such an error

abbrev pub is_wrong : LineFlaw → BoardParts → Line → Bool
is_wrong Missing b line = not (is_on_board b line)
is_wrong NotOutput b line = not (is_output_line b line)
is_wrong NotInput b line = not (is_input_line b line)
is_wrong Input b line = is_input_line b line

abbrev pub wrong_key : LineFlaw → BoardParts → ChainPart → Option (List ℕ)
wrong_key f b c =
    key_if_bad (is_wrong f b c.clock) (codes "clock") (key_if_bad (is_wrong f b c.data_in) (codes "data") None)

abbrev pub wrong_chain_from : LineFlaw → BoardParts → ℕ → List ChainPart → Option Part
wrong_chain_from f b i [] = None
wrong_chain_from f b i (c ∷ cs) =
    elim (wrong_key f b c) [
      | Some key ↦ Some (part_at_table Chain i (Some key))
      | None ↦ wrong_chain_from f b (i + 1) cs
    ]

abbrev pub wrong_lamp_from : LineFlaw → BoardParts → ℕ → List Line → Option Part
wrong_lamp_from f b i [] = None
wrong_lamp_from f b i (l ∷ ls) =
    if is_wrong f b l then Some (part_at_table Lamp i (Some (codes "line")))
    else wrong_lamp_from f b (i + 1) ls

abbrev pub wrong_column_of : LineFlaw → BoardParts → Option KeyMatrix → Option Part
wrong_column_of f b None = None
wrong_column_of f b (Some m) =
    part_if (list_any (is_wrong f b) m.columns.items) (part_at_table Keys 0 (Some (codes "columns"))) None

abbrev pub missing_rows_of : BoardParts → Option KeyMatrix → Option Part
missing_rows_of b None = None
missing_rows_of b (Some m) =
    part_if (nat_le (chain_count b) m.chain) (part_at_table Keys 0 (Some (codes "chain")))
    (part_if (nat_lt (chain_bits b m.chain) (m.first + m.rows)) (part_at_table Keys 0 (Some (codes "rows"))) None)

abbrev pub missing_line_part : BoardParts → Option Part
missing_line_part b =
    option_or (wrong_chain_from Missing b 0 b.chains.items)
    (option_or (missing_rows_of b b.keys)
    (option_or (wrong_column_of Missing b b.keys) (wrong_lamp_from Missing b 0 b.lamps.items)))

abbrev pub wrong_direction_part : BoardParts → Option Part
wrong_direction_part b =
    option_or (wrong_chain_from NotOutput b 0 b.chains.items)
    (option_or (wrong_column_of NotInput b b.keys) (wrong_lamp_from Input b 0 b.lamps.items))

-- the first part with the given error in a board's table, or `None` for `BadToml` and `NoMemory`,
-- which have no location
abbrev pub part_of : WiringFault → Members → Option Part
part_of fault.UnknownKey ms = unknown_key_part ms
part_of fault.MissingKey ms = flawed_part MissingKey ms
part_of fault.BadValue ms = bad_value_part ms
part_of fault.TooManyParts ms = excess_part ms
part_of fault.DoubleChip ms = double_chip_part ms
part_of fault.NoSuchLine ms = missing_line_part (parts_in ms)
part_of fault.WrongDirection ms = wrong_direction_part (parts_in ms)
part_of fault.BadToml ms = None
part_of fault.NoMemory ms = None

-- ---- the line number

-- true if a table contains the part; if the part is in a section, the part's key is not checked
abbrev pub contains_location : Option Section → Option ℕ → Option (List ℕ) → Members → Bool
contains_location (Some s) (Some n) key ms = nat_le n (length (values_at (section_key s) ms))
contains_location (Some s) None key ms = is_some (get_member (section_key s) ms)
contains_location None n (Some key) ms = is_some (get_member key ms)
contains_location None n None ms = true

abbrev pub contains_part : Part → Members → Bool
contains_part p ms = contains_location p.section p.number p.key ms

-- true if a text is TOML and contains the part
abbrev pub has_part : Part → List ℕ → Bool
has_part p text = elim (parse_document text) [ None ↦ false | Some ms ↦ contains_part p ms ]

abbrev pub is_toml : List ℕ → Bool
is_toml text = is_some (parse_document text)

-- The number of the first line for which `holds` is true of the text up to and including that line.
-- `before` is the text before the lines in the list, and `n` is the number of the first line in the
-- list. The last line in the list is the text after the last line feed. It is not tested, and its
-- number is the result if `holds` is true for no line.
abbrev pub line_from : (List ℕ → Bool) → ℕ → List ℕ → List (List ℕ) → ℕ
line_from holds n before [] = n
line_from holds n before (l ∷ []) = n
line_from holds n before (l ∷ next ∷ ls) =
    if holds (before ++ as_line l) then n else line_from holds (n + 1) (before ++ as_line l) (next ∷ ls)

-- The number of the line after the last line for which `holds` is true of the text up to and
-- including that line. The number is `found` if `holds` is true for no line. The last line in the
-- list is not tested. The other arguments are as in `line_from`.
abbrev pub line_after : (List ℕ → Bool) → ℕ → ℕ → List ℕ → List (List ℕ) → ℕ
line_after holds n found before [] = found
line_after holds n found before (l ∷ []) = found
line_after holds n found before (l ∷ next ∷ ls) =
    line_after holds (n + 1) (if holds (before ++ as_line l) then n + 1 else found)
    (before ++ as_line l) (next ∷ ls)

-- The smallest `n` such that the first `n` lines are TOML and contain the part. If there is no such
-- `n`, the number of the line after the last line feed.
unfoldable pub line_of_part : List ℕ → Part → ℕ
line_of_part text p = line_from (has_part p) 1 [] (slice_split is_line_feed text)

-- `n` + 1 for the largest `n` such that the first `n` lines, each followed by a line feed, are TOML
unfoldable pub line_after_toml : List ℕ → ℕ
line_after_toml text = line_after is_toml 1 1 [] (slice_split is_line_feed text)

-- ---- the report

-- true for letters, digits, `_` and `-`. A key that is empty or has other bytes needs quotes in
-- TOML, and the report shows it as `?`.
abbrev pub is_bare_byte : ℕ → Bool
is_bare_byte b =
    is_ascii_digit b || is_ascii_uppercase b || is_ascii_lowercase b || b == 95 || b == 45

abbrev pub key_name : List ℕ → List ℕ
key_name key = if nat_lt 0 (length key) && list_all is_bare_byte key then key else codes "?"

abbrev pub section_text : Option Section → List ℕ
section_text None = []
section_text (Some s) = codes " " ++ section_key s

abbrev pub number_text : Option ℕ → List ℕ
number_text None = []
number_text (Some n) = codes " " ++ decimal n

abbrev pub key_text : Option (List ℕ) → List ℕ
key_text None = []
key_text (Some key) = codes " key " ++ key_name key

abbrev pub part_text : Part → List ℕ
part_text p = section_text p.section ++ number_text p.number ++ key_text p.key

abbrev pub refusal_text : ℕ → ℕ → Part → List ℕ
refusal_text number line p =
    as_line (codes "no " ++ decimal number ++ codes " line " ++ decimal line ++ part_text p)

abbrev pub error_report_text : List ℕ → WiringFault → Option Part → List ℕ
error_report_text text f None = as_line (codes "no " ++ decimal (wiring_fault_number f))
error_report_text text f (Some p) = refusal_text (wiring_fault_number f) (line_of_part text p) p

abbrev pub report_text : List ℕ → Members → Result BoardParts WiringFault → List ℕ
report_text text ms (Ok b) = as_line (codes "wiring valid")
report_text text ms (Err f) = error_report_text text f (part_of f ms)

-- the report on a board text
unfoldable pub wiring_text : List ℕ → List ℕ
wiring_text text = elim (parse_document text) [
  | None ↦ as_line (codes "no 20 line " ++ decimal (line_after_toml text))
  | Some ms ↦ report_text text ms (board_of_table ms)
]
