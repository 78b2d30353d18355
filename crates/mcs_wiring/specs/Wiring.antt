-- The board that a table describes, or the first error that applies to the table. (Defined by
-- Fethsaim, not by Intel.)
use Rattle.std.specs.Prelude.{◌≡◌, ◌-◌, ℕ, ℤ, pos, negsuc, Bool, true, false, not, ◌&&◌, ◌||◌, List, [], ◌∷◌, length, Option, Some, None, is_none, Result, Ok, Err, nat_lt, nat_le, ◌==◌, if◌then◌else◌, codes}
use Rattle.std.specs.List.{list_any, filter_map}
use Rattle.std.specs.Option.{option_to_list, option_map_or}
use Rattle.toml.specs.Data.{Data, array, table, Items, no_items, item, Members, no_members, member, get_member, as_str, as_integer, as_array, as_table}
use Rattle.toml.specs.Parse.{parse_document}
use Rattle.mcs_nibble.specs.declared.lines.LineMask.{LineMask}
use Rattle.mcs_nibble.specs.Tables.{table_of}
use Rattle.mcs_model.specs.declared.board.BoardParts.{BoardParts}
use Rattle.mcs_model.specs.declared.board.ChainPart.{ChainPart}
use Rattle.mcs_model.specs.declared.board.KeyMatrix.{KeyMatrix}
use Rattle.mcs_model.specs.declared.board.Line.{Line}
use Rattle.mcs_model.specs.declared.limits.TheConstants.{ROMS, BANKS, BANK_CHIPS, CHAINS, CHAIN_BITS, CHAIN_CHIPS, KEY_COLUMNS, KEY_ROWS, LAMPS}
use Rattle.mcs_model.specs.Boards.{lacks_line, has_wrong_direction}
use Rattle.mcs_wiring.specs.declared.fault.WiringFault.{WiringFault}
use Rattle.mcs_wiring.specs.declared.fault.WiringFault.TheVariants.{BadToml, UnknownKey, MissingKey, BadValue, TooManyParts, DoubleChip, NoSuchLine, WrongDirection, NoMemory}
use Rattle.mcs_wiring.specs.declared.sections.Numbered.{Numbered}
use Rattle.mcs_wiring.specs.declared.sections.Section.{Section}
use Rattle.mcs_wiring.specs.declared.sections.Section.TheVariants.{Rom, Ram, Chain, Keys, Lamp}
use Rattle.mcs_wiring.specs.Format.{sections, section_key, table_keys, is_board_key, is_table_key}
use Rattle.mcs_wiring.specs.LineNames.{line_named, masks_named}
use Rattle.mcs_model.specs.Options.{◌>>=◌}

-- ---- the values in a table

-- the values of an array, in order
abbrev pub values_of : Items → List Data
values_of no_items = []
values_of (item d ds) = d ∷ values_of ds

-- the keys of a table
abbrev pub keys_of : Members → List (List ℕ)
keys_of no_members = []
keys_of (member key d ms) = key ∷ keys_of ms

-- the elements of the array at a key, or no elements if there is no array
abbrev pub array_values : Option Data → List Data
array_values (Some (array ds)) = values_of ds
array_values d = []

abbrev pub values_at : List ℕ → Members → List Data
values_at key ms = array_values (get_member key ms)

-- the entries of a section: for the section `Keys`, the value at `keys`; for another section, the
-- elements of the array at its key. An entry that is not a table is a bad value (error 23).
abbrev pub section_values : Section → Members → List Data
section_values Keys ms = option_to_list (get_member (codes "keys") ms)
section_values s ms = values_at (section_key s) ms

-- true if `p` holds for at least one entry of any section
abbrev pub any_section_entry : (Section → Data → Bool) → Members → Bool
any_section_entry p ms = list_any (λ s. list_any (p s) (section_values s ms)) sections

-- ---- error 21: an unknown key, at the top level or in an entry that is a table

abbrev pub entry_has_unknown_key : Section → Data → Bool
entry_has_unknown_key s (table ms) = list_any (λ key. not (is_table_key s key)) (keys_of ms)
entry_has_unknown_key s d = false

abbrev pub has_unknown_key : Members → Bool
has_unknown_key ms =
    list_any (λ key. not (is_board_key key)) (keys_of ms) || any_section_entry entry_has_unknown_key ms

-- ---- error 22: an entry that is a table lacks a key

abbrev pub lacks_required_key : List (List ℕ) → Members → Bool
lacks_required_key names ms = list_any (λ key. is_none (get_member key ms)) names

abbrev pub entry_lacks_key : Section → Data → Bool
entry_lacks_key s (table ms) = lacks_required_key (table_keys s) ms
entry_lacks_key s d = false

abbrev pub has_missing_key : Members → Bool
has_missing_key ms = any_section_entry entry_lacks_key ms

-- ---- error 23: a value of the wrong type or form, a number out of range, or no columns

-- the integer, or none if it is outside the range `least` to `most`
abbrev pub within_or_none : ℕ → ℕ → ℤ → Option ℕ
within_or_none least most (pos n) = if nat_le least n && nat_le n most then Some n else None
within_or_none least most (negsuc n) = None

-- the integer at a key, or none if there is no integer in the range `least` to `most` at the key
abbrev pub number_at : List ℕ → ℕ → ℕ → Members → Option ℕ
number_at key least most ms = get_member key ms >>= as_integer >>= within_or_none least most

abbrev pub line_in : Data → Option Line
line_in d = as_str d >>= line_named

abbrev pub line_at : List ℕ → Members → Option Line
line_at key ms = get_member key ms >>= line_in

-- the ROM that a table describes, as its chip number and its masks; none if a value is missing or
-- malformed
abbrev pub rom_in : Members → Option (Numbered (Option (List LineMask)))
rom_in ms =
    number_at (codes "chip") 0 (ROMS - 1) ms >>= (λ chip.
    get_member (codes "port") ms >>= as_str >>= masks_named >>= (λ masks.
    Some (record { number = chip; part = Some masks })))

-- the RAM bank that a table describes, as its bank number and its number of chips; none if a number
-- is missing or out of range
abbrev pub ram_in : Members → Option (Numbered ℕ)
ram_in ms =
    number_at (codes "bank") 0 (BANKS - 1) ms >>= (λ bank.
    number_at (codes "chips") 1 BANK_CHIPS ms >>= (λ chips.
    Some (record { number = bank; part = chips })))

abbrev pub chain_in : Members → Option ChainPart
chain_in ms =
    line_at (codes "clock") ms >>= (λ clock.
    line_at (codes "data") ms >>= (λ data_in.
    number_at (codes "chips") 1 CHAIN_CHIPS ms >>= (λ chips.
    Some (record { clock = clock; data_in = data_in; chips = chips }))))

-- the key matrix that a table describes, without the columns that do not name a line; none if one
-- of the matrix's numbers is missing or out of range
abbrev pub matrix_in : Members → Option KeyMatrix
matrix_in ms =
    number_at (codes "chain") 0 (CHAINS - 1) ms >>= (λ chain.
    number_at (codes "first") 0 (CHAIN_BITS - 1) ms >>= (λ first.
    number_at (codes "rows") 1 KEY_ROWS ms >>= (λ rows.
    Some (record {
      chain = chain;
      first = first;
      rows = rows;
      columns = record { items = filter_map line_in (values_at (codes "columns") ms) };
    }))))

-- true if a value does not name a line
abbrev pub names_no_line : Data → Bool
names_no_line d = is_none (line_in d)

-- True if there are no columns, or one of the columns does not name a line. There are no columns if
-- the value at `columns` is not an array.
abbrev pub are_malformed_columns : List Data → Bool
are_malformed_columns [] = true
are_malformed_columns (d ∷ ds) = list_any names_no_line (d ∷ ds)

abbrev pub has_bad_columns : Members → Bool
has_bad_columns ms = are_malformed_columns (values_at (codes "columns") ms)

abbrev pub lamp_in : Members → Option Line
lamp_in ms = line_at (codes "line") ms

-- the part that `read` returns for a value that is a table; none for any other value
abbrev pub part_of : {A : Type 0} → (Members → Option A) → Data → Option A
part_of read d = as_table d >>= read

-- True if a section entry does not describe a part of the section's kind. It is not a table, or one
-- of its values is missing, has the wrong type or form, or is out of range. A key matrix must also
-- have at least one column.
abbrev pub is_malformed : Section → Data → Bool
is_malformed Rom d = is_none (part_of rom_in d)
is_malformed Ram d = is_none (part_of ram_in d)
is_malformed Chain d = is_none (part_of chain_in d)
is_malformed Keys d =
    is_none (part_of matrix_in d) || option_map_or has_bad_columns (as_table d) true
is_malformed Lamp d = is_none (part_of lamp_in d)

-- true if there is a value and it is not an array
abbrev pub is_not_array : Option Data → Bool
is_not_array None = false
is_not_array (Some d) = is_none (as_array d)

-- True if a section requires an array and the value at its key is not an array. The section `Keys`
-- requires no array. A missing value is not an error.
abbrev pub has_value_that_is_not_array : Members → Section → Bool
has_value_that_is_not_array ms Keys = false
has_value_that_is_not_array ms s = is_not_array (get_member (section_key s) ms)

abbrev pub has_malformed_value : Members → Bool
has_malformed_value ms = list_any (has_value_that_is_not_array ms) sections || any_section_entry is_malformed ms

-- ---- error 27: more parts of one kind, or more key columns, than a board can have

-- the table at the key `keys`, or none if the key is missing or its value is not a table
abbrev pub keys_table : Members → Option Members
keys_table ms = get_member (codes "keys") ms >>= as_table

abbrev pub matrix_columns : Option Members → List Data
matrix_columns None = []
matrix_columns (Some ms) = values_at (codes "columns") ms

abbrev pub column_values : Members → List Data
column_values ms = matrix_columns (keys_table ms)

abbrev pub has_too_many : Members → Bool
has_too_many ms =
    nat_lt ROMS (length (values_at (codes "rom") ms))
    || nat_lt BANKS (length (values_at (codes "ram") ms))
    || nat_lt CHAINS (length (values_at (codes "chain") ms))
    || nat_lt KEY_COLUMNS (length (column_values ms))
    || nat_lt LAMPS (length (values_at (codes "lamp") ms))

-- ---- error 24: two ROMs with the same chip number, or two entries for the same RAM bank

abbrev pub has_double : {A : Type 0} → List (Numbered A) → Bool
has_double [] = false
has_double (p ∷ ps) = list_any (λ q. q.number == p.number) ps || has_double ps

abbrev pub roms_of : Members → List (Numbered (Option (List LineMask)))
roms_of ms = filter_map (part_of rom_in) (values_at (codes "rom") ms)

abbrev pub rams_of : Members → List (Numbered ℕ)
rams_of ms = filter_map (part_of ram_in) (values_at (codes "ram") ms)

abbrev pub has_double_chip : Members → Bool
has_double_chip ms = has_double (roms_of ms) || has_double (rams_of ms)

-- ---- the board

-- the field `part` of the first entry with the number `n`, or `none` if no entry has this number
abbrev pub part_at : {A : Type 0} → A → List (Numbered A) → ℕ → A
part_at none [] n = none
part_at none (p ∷ ps) n = if p.number == n then p.part else part_at none ps n

-- the parts that a table describes
abbrev pub parts_in : Members → BoardParts
parts_in ms = record {
  roms = table_of ROMS (part_at None (roms_of ms));
  banks = table_of BANKS (part_at 0 (rams_of ms));
  chains = record { items = filter_map (part_of chain_in) (values_at (codes "chain") ms) };
  keys = keys_table ms >>= matrix_in;
  lamps = record { items = filter_map (part_of lamp_in) (values_at (codes "lamp") ms) };
}

-- The board that a table describes, or the first error that applies to the table. Error 25: the
-- board lacks the key matrix's chain, a chain bit for one of the matrix's rows, or a line that the
-- table uses. Error 26: a line has the wrong direction.
unfoldable pub board_of_table : Members → Result BoardParts WiringFault
board_of_table ms =
    if has_unknown_key ms then Err UnknownKey
    else if has_missing_key ms then Err MissingKey
    else if has_malformed_value ms then Err BadValue
    else if has_too_many ms then Err TooManyParts
    else if has_double_chip ms then Err DoubleChip
    else if lacks_line (parts_in ms) then Err NoSuchLine
    else if has_wrong_direction (parts_in ms) then Err WrongDirection
    else Ok (parts_in ms)

-- the board that a text describes, or its first error: error 20 if the text is not TOML, otherwise
-- the first error of its table
abbrev pub board_of_text : List ℕ → Result BoardParts WiringFault
board_of_text text =
    elim (parse_document text) [ None ↦ Err BadToml | Some ms ↦ board_of_table ms ]

-- Holds if the result is `wanted`, or is `NoMemory`.
abbrev pub ReadsBoard : Result BoardParts WiringFault → Result BoardParts WiringFault → Type 0
ReadsBoard (Err NoMemory) wanted = Unit {0}
ReadsBoard (Err fault) wanted = wanted ≡ Err fault
ReadsBoard (Ok board) wanted = wanted ≡ Ok board
