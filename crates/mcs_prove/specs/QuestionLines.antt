-- The lines of a question and their meaning.
use Rattle.std.specs.Prelude.{ℕ, Bool, true, false, List, [], ◌∷◌, codes, nat_le, nat_lt, Option, Some, None, if◌then◌else◌}
use Rattle.std.specs.Option.{option_map}
use Rattle.mcs_model.specs.Options.{◌>>=◌}
use Rattle.std.specs.Str.{bytes_eq}
use Rattle.mcs_model.specs.Numerals.{number_up_to}
use Rattle.mcs_model.specs.WordTables.{lookup_entry}
use Rattle.mcs_search.specs.declared.searching.TheConstants.{MAX_STATES}
use Rattle.mcs_drive.specs.declared.marks.Mark.{Mark}
use Rattle.mcs_check.specs.declared.cells.Cell.{Cell}
use Rattle.mcs_check.specs.declared.cells.CellList.{CellList}
use Rattle.mcs_check.specs.declared.cells.CellList.TheVariants.{RamNibbles, StatusCharacters, RamPorts, RomPorts, BankSrcBytes, Registers, Counters, Chain}
use Rattle.mcs_check.specs.declared.common_mistakes.Mistakes.{Mistakes}
use Rattle.mcs_check.specs.declared.conditions.Comparison.{Comparison}
use Rattle.mcs_check.specs.declared.conditions.Condition.TheVariants as condition
use Rattle.mcs_check.specs.declared.conditions.Part.{Part}
use Rattle.mcs_check.specs.declared.conditions.Part.TheVariants.{Whole, Line}
use Rattle.mcs_check.specs.Cells.{max_cell_count}
use Rattle.mcs_prove.specs.declared.inputs.KeyPosition.{KeyPosition}
use Rattle.mcs_prove.specs.declared.lines.QuestionLine.{QuestionLine}
use Rattle.mcs_prove.specs.declared.lines.QuestionLine.TheVariants.{Blank, MaxStates, MaxEntries, MaxMemory, Pause, TimeLimit, BoardText, ProgramText, Conditions, OneCondition, NextMark, Together, Wait, Held, Only, Pressable, TestMayChange, Prove}
use Rattle.mcs_prove.specs.declared.lines.ListRole.TheVariants.{Never, Begin, End, Open}
use Rattle.mcs_prove.specs.declared.lines.TheConstants.{MAX_CELL_INDEX, MAX_TIME_LIMIT, MAX_PAUSE, MAX_ENTRIES, MAX_MEMORY, MAX_WAIT, MIN_WAIT, MAX_HELD}

-- ---- a comparison: `in ramport 0 line1 1 1`

abbrev pub comparison_kinds : List (List ℕ × Bool)
comparison_kinds = (codes "in", true) ∷ (codes "out", false) ∷ []

abbrev pub cell_lists : List (List ℕ × CellList)
cell_lists =
    (codes "character", RamNibbles)
    ∷ (codes "status", StatusCharacters)
    ∷ (codes "ramport", RamPorts)
    ∷ (codes "romport", RomPorts)
    ∷ (codes "banksrc", BankSrcBytes)
    ∷ (codes "register", Registers)
    ∷ (codes "counter", Counters)
    ∷ (codes "chain0", Chain 0)
    ∷ (codes "chain1", Chain 1)
    ∷ (codes "chain2", Chain 2)
    ∷ (codes "chain3", Chain 3)
    ∷ []

abbrev pub cell_parts : List (List ℕ × Part)
cell_parts =
    (codes "whole", Whole)
    ∷ (codes "line0", Line 0)
    ∷ (codes "line1", Line 1)
    ∷ (codes "line2", Line 2)
    ∷ (codes "line3", Line 3)
    ∷ []

-- the cell at an index of a list, if the index is below the maximum number of cells in the list
abbrev pub cell_at : CellList → ℕ → Option Cell
cell_at list i = if nat_lt i (max_cell_count list) then Some (record { list = list; index = i }) else None

abbrev pub cell_of : List ℕ → List ℕ → Option Cell
cell_of list index =
    lookup_entry (bytes_eq list) cell_lists >>= λ l. number_up_to MAX_CELL_INDEX index >>= λ i. cell_at l i

-- the comparison that six words spell. It compares a cell's value, or one line of the value, with a
-- range.
abbrev pub comparison_of : List ℕ → List ℕ → List ℕ → List ℕ → List ℕ → List ℕ → Option Comparison
comparison_of kind list index part low high =
    lookup_entry (bytes_eq kind) comparison_kinds >>= λ inside.
    cell_of list index >>= λ cell.
    lookup_entry (bytes_eq part) cell_parts >>= λ p.
    number_up_to 255 low >>= λ least.
    number_up_to 255 high >>= λ most.
    Some (record { cell = cell; part = p; low = least; high = most; inside = inside })

-- ---- mistakes: `mistake code call`

abbrev pub no_mistakes : Mistakes
no_mistakes = record {
  invalid_opcode = false;
  fourth_call = false;
  unmatched_return = false;
  absent_ram = false;
  absent_rom = false;
  port_without_inputs = false;
  port_without_outputs = false;
}

abbrev pub mistake_kinds : List (List ℕ × (Mistakes → Mistakes))
mistake_kinds =
    (codes "code", λ m. record m { invalid_opcode = true })
    ∷ (codes "call", λ m. record m { fourth_call = true })
    ∷ (codes "return", λ m. record m { unmatched_return = true })
    ∷ (codes "ram", λ m. record m { absent_ram = true })
    ∷ (codes "rom", λ m. record m { absent_rom = true })
    ∷ (codes "rdr", λ m. record m { port_without_inputs = true })
    ∷ (codes "wrr", λ m. record m { port_without_outputs = true })
    ∷ []

abbrev pub with_mistake : Mistakes → List ℕ → Option Mistakes
with_mistake m word = option_map (λ adds. adds m) (lookup_entry (bytes_eq word) mistake_kinds)

abbrev pub with_mistakes : Mistakes → List (List ℕ) → Option Mistakes
with_mistakes m [] = Some m
with_mistakes m (word ∷ words) = with_mistake m word >>= λ more. with_mistakes more words

-- the kinds of mistake that words name. There must be at least one word.
abbrev pub mistakes_of : List (List ℕ) → Option Mistakes
mistakes_of [] = None
mistakes_of (word ∷ words) = with_mistakes no_mistakes (word ∷ words)

-- ---- a mark: `up 1 0`

abbrev pub key_levels : List (List ℕ × Bool)
key_levels = (codes "up", false) ∷ (codes "down", true) ∷ []

-- the mark that three words spell: a level, a row and a column
abbrev pub mark_of : List ℕ → List ℕ → List ℕ → Option Mark
mark_of level row column =
    lookup_entry (bytes_eq level) key_levels >>= λ is_down.
    number_up_to 255 row >>= λ r.
    number_up_to 255 column >>= λ c.
    Some (record { row = r; column = c; is_down = is_down })

-- ---- a key that may be pressed: `press 1 0`

-- the key at the row and the column that two words spell
abbrev pub key_of : List ℕ → List ℕ → Option KeyPosition
key_of row column =
    number_up_to 255 row >>= λ r.
    number_up_to 255 column >>= λ c.
    Some (record { row = r; column = c })

-- ---- lines

abbrev pub one_word_lines : List (List ℕ × QuestionLine)
one_word_lines =
    (codes "wire", BoardText)
    ∷ (codes "asm", ProgramText)
    ∷ (codes "never", Conditions Never)
    ∷ (codes "begin", Conditions Begin)
    ∷ (codes "end", Conditions End)
    ∷ (codes "open", Conditions Open)
    ∷ (codes "only", Only)
    ∷ (codes "test", TestMayChange)
    ∷ (codes "prove", Prove)
    ∷ []

-- the `pause` line with the number n; None if n is 0
abbrev pub pause_line : ℕ → Option QuestionLine
pause_line n = if nat_lt 0 n then Some (Pause n) else None

-- the `wait` line with the number that a word spells; None if the number is too small or too large
abbrev pub wait_line : List ℕ → Option QuestionLine
wait_line word = number_up_to MAX_WAIT word >>= λ n. if nat_le MIN_WAIT n then Some (Wait n) else None

-- the `held` line with the number that a word spells; None if the number is 0 or too large
abbrev pub held_line : List ℕ → Option QuestionLine
held_line word = number_up_to MAX_HELD word >>= λ n. if nat_lt 0 n then Some (Held n) else None

-- a line of two words: a name and a number
abbrev pub number_line : List ℕ → List ℕ → Option QuestionLine
number_line name word =
    if bytes_eq name (codes "most") then option_map MaxStates (number_up_to MAX_STATES word)
    else if bytes_eq name (codes "sets") then option_map MaxEntries (number_up_to MAX_ENTRIES word)
    else if bytes_eq name (codes "memory") then option_map MaxMemory (number_up_to MAX_MEMORY word)
    else if bytes_eq name (codes "together") then option_map Together (number_up_to 255 word)
    else if bytes_eq name (codes "wait") then wait_line word
    else if bytes_eq name (codes "held") then held_line word
    else if bytes_eq name (codes "within") then option_map TimeLimit (number_up_to MAX_TIME_LIMIT word)
    else if bytes_eq name (codes "pause") then number_up_to MAX_PAUSE word >>= pause_line
    else None

-- a line of four or more words. It is valid only if it is a comparison, which has six words.
abbrev pub comparison_line : List ℕ → List ℕ → List ℕ → List (List ℕ) → Option QuestionLine
comparison_line kind list index (part ∷ low ∷ high ∷ []) =
    option_map (λ c. OneCondition (condition.Compare c)) (comparison_of kind list index part low high)
comparison_line kind list index words = None

-- a line of three words: `press` and a key, or a mark
abbrev pub three_word_line : List ℕ → List ℕ → List ℕ → Option QuestionLine
three_word_line name row column =
    if bytes_eq name (codes "press")
    then option_map Pressable (key_of row column)
    else option_map NextMark (mark_of name row column)

-- a line of three or more words: a line of three words, or a comparison, which has six
abbrev pub longer_line : List ℕ → List ℕ → List ℕ → List (List ℕ) → Option QuestionLine
longer_line name first second [] = three_word_line name first second
longer_line name first second (word ∷ words) = comparison_line name first second (word ∷ words)

abbrev pub line_by_words : List ℕ → List (List ℕ) → Option QuestionLine
line_by_words name [] = lookup_entry (bytes_eq name) one_word_lines
line_by_words name (word ∷ []) = number_line name word
line_by_words name (first ∷ second ∷ words) = longer_line name first second words

-- the parsed line of a question, if its words are valid
abbrev pub line_of : List (List ℕ) → Option QuestionLine
line_of [] = Some Blank
line_of (name ∷ words) =
    if bytes_eq name (codes "mistake")
    then option_map (λ m. OneCondition (condition.Mistaken m)) (mistakes_of words)
    else line_by_words name words
