-- The text of a board, line by line, and the answer to the query `board`. (Defined by Fethsaim, not
-- by Intel.)
use Rattle.std.specs.Prelude.{ℕ, nat_lt, List, [], ◌∷◌, ◌++◌, Option, Some, None, codes, slice_index, if◌then◌else◌}
use Rattle.std.specs.List.{flat_map, join_by, join_with_byte, range_with_len}
use Rattle.std.specs.Option.{option_map_or}
use Rattle.std.specs.Fmt.{decimal}
use Rattle.mcs_nibble.specs.declared.lines.LineMask.{LineMask}
use Rattle.mcs_model.specs.declared.board.BoardParts.{BoardParts}
use Rattle.mcs_model.specs.declared.board.ChainPart.{ChainPart}
use Rattle.mcs_model.specs.declared.board.KeyMatrix.{KeyMatrix}
use Rattle.mcs_model.specs.declared.board.Line.{Line}
use Rattle.mcs_model.specs.declared.limits.TheConstants.{ROMS, BANKS}
use Rattle.mcs_model.specs.Boards.{rom_masks}
use Rattle.mcs_model.specs.TextLines.{line_feed, text_of}
use Rattle.mcs_wiring.specs.LineNames.{line_name, port_text}

-- a line of the form `key = value`
abbrev pub entry : List ℕ → List ℕ → List ℕ
entry key value = key ++ (codes " = " ++ value)

abbrev pub quoted_text : List ℕ → List ℕ
quoted_text text = codes "\"" ++ (text ++ codes "\"")

abbrev pub quoted_name : Line → List ℕ
quoted_name line = quoted_text (line_name line)

-- the lines of a ROM's table, or no lines if the board lacks the ROM
abbrev pub rom_lines : ℕ → Option (List LineMask) → List (List ℕ)
rom_lines chip None = []
rom_lines chip (Some masks) =
    codes "[[rom]]" ∷ entry (codes "chip") (decimal chip)
    ∷ entry (codes "port") (quoted_text (port_text masks)) ∷ []

-- the lines of a RAM bank's table, or no lines if the bank has no chips
abbrev pub bank_lines : ℕ → ℕ → List (List ℕ)
bank_lines bank chips =
    if nat_lt 0 chips
    then codes "[[ram]]" ∷ entry (codes "bank") (decimal bank)
    ∷ entry (codes "chips") (decimal chips) ∷ []
    else []

abbrev pub chain_lines : ChainPart → List (List ℕ)
chain_lines c =
    codes "[[chain]]" ∷ entry (codes "clock") (quoted_name c.clock)
    ∷ entry (codes "data") (quoted_name c.data_in) ∷ entry (codes "chips") (decimal c.chips) ∷ []

-- the quoted names of the columns' lines, separated by `, ` and enclosed in brackets
abbrev pub columns_text : List Line → List ℕ
columns_text lines = codes "[" ++ (join_by quoted_name (codes ", ") lines ++ codes "]")

abbrev pub matrix_lines : KeyMatrix → List (List ℕ)
matrix_lines m =
    codes "[keys]" ∷ entry (codes "chain") (decimal m.chain)
    ∷ entry (codes "first") (decimal m.first) ∷ entry (codes "rows") (decimal m.rows)
    ∷ entry (codes "columns") (columns_text m.columns.items) ∷ []

abbrev pub lamp_lines : Line → List (List ℕ)
lamp_lines line = codes "[[lamp]]" ∷ entry (codes "line") (quoted_name line) ∷ []

-- the lines of a board's text: the ROMs in ascending order of chip number, the RAM banks in
-- ascending order of bank number, the chains, the key matrix, the lamps
abbrev pub board_lines : BoardParts → List (List ℕ)
board_lines b =
    flat_map (λ chip. rom_lines chip (rom_masks b chip)) (range_with_len 0 ROMS)
    ++ (flat_map (λ bank. bank_lines bank (slice_index b.banks bank)) (range_with_len 0 BANKS)
    ++ (flat_map chain_lines b.chains.items
    ++ (option_map_or matrix_lines b.keys []
    ++ flat_map lamp_lines b.lamps.items)))

-- the text of a board; each line ends with a line feed
abbrev pub board_text : BoardParts → List ℕ
board_text b = text_of (board_lines b)

-- the lines of the answer to the query `board`: the line `board`, then the lines of the board's
-- text
abbrev pub query_lines : BoardParts → List (List ℕ)
query_lines b = codes "board" ∷ board_lines b

-- the answer to the query `board`, with a line feed between two lines, but not after the last line
abbrev pub query_text : BoardParts → List ℕ
query_text b = join_with_byte line_feed (query_lines b)
