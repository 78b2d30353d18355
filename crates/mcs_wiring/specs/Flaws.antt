-- Definitions for the contracts of private functions. Public contracts depend only on `has_flaw`,
-- through the module `Parts`.
use Rattle.std.specs.Prelude.{if◌then◌else◌, ℕ, ◌≤◌, Bool, List, length, codes, slice_index, Option, Some, None, Result, Ok, Err}
use Rattle.std.specs.List.{flat_map, range_with_len}
use Rattle.toml.specs.Data.{Data, Members}
use Rattle.mcs_model.specs.declared.limits.TheConstants.{ROMS, BANKS, CHAINS, KEY_COLUMNS, LAMPS}
use Rattle.mcs_model.specs.declared.board.BoardFault.{BoardFault}
use Rattle.mcs_model.specs.declared.board.BoardParts.{BoardParts}
use Rattle.mcs_model.specs.Boards.{lacks_line, has_wrong_direction, rom_masks}
use Rattle.mcs_wiring.specs.declared.fault.WiringFault.{WiringFault}
use Rattle.mcs_wiring.specs.declared.fault.WiringFault.TheVariants.{DoubleChip, NoSuchLine, WrongDirection}
use Rattle.mcs_wiring.specs.declared.sections.Flaw.{Flaw}
use Rattle.mcs_wiring.specs.declared.sections.Flaw.TheVariants.{UnknownKey, MissingKey, BadValue}
use Rattle.mcs_wiring.specs.declared.sections.Section.{Section}
use Rattle.mcs_wiring.specs.RefusalNumbers.{refusal_of}
use Rattle.mcs_wiring.specs.BoardText.{rom_lines, bank_lines}
use Rattle.mcs_model.specs.TextLines.{text_of}
use Rattle.mcs_wiring.specs.Wiring.{entry_has_unknown_key, entry_lacks_key, is_malformed, values_at, column_values, has_double_chip, parts_in}

-- true if a section entry has the flaw
abbrev pub has_flaw : Flaw → Section → Data → Bool
has_flaw UnknownKey = entry_has_unknown_key
has_flaw MissingKey = entry_lacks_key
has_flaw BadValue = is_malformed

-- Holds if a table has no more parts of one kind, and no more key columns, than a board can have.
pub record IsWithinLimits (ms : Members) : Type 0 where
  pub roms : length (values_at (codes "rom") ms) ≤ ROMS
  pub banks : length (values_at (codes "ram") ms) ≤ BANKS
  pub chains : length (values_at (codes "chain") ms) ≤ CHAINS
  pub columns : length (column_values ms) ≤ KEY_COLUMNS
  pub lamps : length (values_at (codes "lamp") ms) ≤ LAMPS

-- the text for one ROM; empty if the board lacks the ROM
abbrev pub rom_text : BoardParts → ℕ → List ℕ
rom_text b chip = text_of (rom_lines chip (rom_masks b chip))

-- the text for the ROMs with chip numbers below `n`
abbrev pub roms_text : BoardParts → ℕ → List ℕ
roms_text b n = flat_map (rom_text b) (range_with_len 0 n)

-- the text for one RAM bank; empty if the bank has no chips
abbrev pub ram_text : BoardParts → ℕ → List ℕ
ram_text b bank = text_of (bank_lines bank (slice_index b.banks bank))

-- the text for the RAM banks with numbers below `n`
abbrev pub rams_text : BoardParts → ℕ → List ℕ
rams_text b n = flat_map (ram_text b) (range_with_len 0 n)

-- the given parts, or the `WiringFault` that corresponds to the error in the parts
abbrev pub board_or_error : BoardParts → Option BoardFault → Result BoardParts WiringFault
board_or_error parts None = Ok parts
board_or_error parts (Some fault) = Err (refusal_of fault)

-- The board with the given parts, or error 25 (a line, a chain or a chain bit that the board lacks)
-- or 26 (wrong direction). All numbers in the parts must be in range.
abbrev pub board_of_parts : BoardParts → Result BoardParts WiringFault
board_of_parts parts =
    if lacks_line parts then Err NoSuchLine
    else if has_wrong_direction parts then Err WrongDirection
    else Ok parts

-- The board that a table describes, or error 24 (a chip or bank number that occurs twice), 25 or
-- 26. The table must have none of the errors 21, 22, 23 and 27.
abbrev pub board_within_limits : Members → Result BoardParts WiringFault
board_within_limits ms = if has_double_chip ms then Err DoubleChip else board_of_parts (parts_in ms)
