-- The answers of a bench to queries: one text for each query and state, without the last line feed.
use Rattle.std.specs.Prelude.{ℕ, ◌+◌, ◌*◌, ◌/◌, ◌%◌, ◌==◌, List, [], ◌∷◌, ◌++◌, map, take, drop, length, codes, nat_lt, if◌then◌else◌, slice_index, Some, None}
use Rattle.std.specs.Fmt.{decimal}
use Rattle.std.specs.List.{flat_map, join_by, join_with_byte, range_with_len}
use Rattle.mcs_model.specs.declared.query.Query.{Query}
use Rattle.mcs_model.specs.declared.query.Query.TheVariants as query
use Rattle.mcs_model.specs.declared.regs.Regs.{Regs}
use Rattle.mcs_model.specs.declared.limits.TheConstants.{BANKS, ROMS}
use Rattle.mcs_model.specs.Boards.{chain_bits, chain_count, key_index, rom_masks}
use Rattle.mcs_model.specs.Bus.{BusState, chips_of, ram_port_index}
use Rattle.mcs_model.specs.TextLines.{line_feed}
use Rattle.mcs_model.specs.BenchState.{BenchState}
use Rattle.mcs_model.specs.Levels.{chain_bit, level, port_at}

-- the uppercase hexadecimal digit of a nibble, as an ASCII code
abbrev pub hex_digit : ℕ → ℕ
hex_digit n = if nat_lt n 10 then 48 + n else 55 + n

-- an address as three hexadecimal digits
abbrev pub address_text : ℕ → List ℕ
address_text a = hex_digit (a / 256) ∷ hex_digit (a / 16 % 16) ∷ hex_digit (a % 16) ∷ []

-- a value below 16 as one hexadecimal digit
abbrev pub digit_text : ℕ → List ℕ
digit_text n = hex_digit n ∷ []

-- the bytes, or a dash if there are none
abbrev pub or_dash : List ℕ → List ℕ
or_dash [] = codes "-"
or_dash bytes = bytes

-- the part of a list that begins at index `from`, with at most `count` numbers
abbrev pub sublist : List ℕ → ℕ → ℕ → List ℕ
sublist items from count = take count (drop from items)

-- the text for the processor's registers, without the return addresses, and for the level of the
-- TEST pin (`test`)
abbrev pub registers_text : Regs → ℕ → List ℕ
registers_text registers test =
    codes "acc " ++ digit_text registers.acc
    ++ codes " cy " ++ digit_text registers.cy
    ++ codes " pc " ++ address_text registers.pc
    ++ codes " owed " ++ digit_text registers.owed
    ++ codes " dcl " ++ digit_text registers.dcl
    ++ codes " test " ++ digit_text test
    ++ codes " r " ++ map hex_digit registers.r

-- the answer to `regs`: the registers of the processor and the level of the TEST pin
abbrev pub regs_text : Regs → ℕ → List ℕ
regs_text registers test =
    registers_text registers test
    ++ codes " ret " ++ address_text (slice_index registers.ret 0)
    ++ codes " " ++ address_text (slice_index registers.ret 1)
    ++ codes " " ++ address_text (slice_index registers.ret 2)

-- the mark for a lamp at this level: `*` if the lamp is on, `.` if the lamp is off
abbrev pub lamp_mark : ℕ → ℕ
lamp_mark level = if level == 1 then 42 else 46

-- the answer to `lamps`: a mark for each lamp of the board, in order, or a dash if the board has no
-- lamps
abbrev pub lamps_text : BusState → List ℕ
lamps_text s =
    codes "lamps " ++ or_dash (map (λ line. lamp_mark (level s line)) s.board.lamps.items)

-- the line for register `r` of a RAM chip: the numbers of its bank, chip and register, its 16 main
-- nibbles, and its four status characters
abbrev pub register_line : BusState → ℕ → ℕ → ℕ → List ℕ
register_line s bank chip r =
    digit_text bank ++ codes "." ++ digit_text chip ++ codes "." ++ digit_text r
    ++ codes " " ++ map hex_digit (sublist s.ram (bank * 256 + chip * 64 + r * 16) 16)
    ++ codes " " ++ map hex_digit (sublist s.status (bank * 64 + chip * 16 + r * 4) 4)

-- the text for the port of a RAM chip: the bank number, the chip number, a separator, and the
-- contents of the port latch
abbrev pub ram_port_text : List ℕ → BusState → ℕ → ℕ → List ℕ
ram_port_text separator s bank chip =
    digit_text bank ++ codes "." ++ digit_text chip ++ separator
    ++ digit_text (slice_index s.ram_ports (ram_port_index bank chip))

-- the lines for a RAM chip: one for each of its four registers, and one for its port
abbrev pub chip_lines : BusState → ℕ → ℕ → List (List ℕ)
chip_lines s bank chip =
    map (register_line s bank chip) (range_with_len 0 4)
    ++ ram_port_text (codes " out ") s bank chip ∷ []

-- the answer to `ram`: the number of chips in a bank, and the contents of each chip
abbrev pub ram_lines : BusState → ℕ → List (List ℕ)
ram_lines s bank =
    (codes "ram " ++ digit_text bank ++ codes " chips " ++ digit_text (chips_of s bank))
    ∷ flat_map (chip_lines s bank) (range_with_len 0 (chips_of s bank))

-- the answer to `breaks`: the breakpoints in ascending order, or a dash if there are none
abbrev pub breaks_text : List ℕ → List ℕ
breaks_text breakpoints = codes "breaks " ++ or_dash (join_by address_text (codes " ") breakpoints)

-- a byte as two uppercase hexadecimal digits
abbrev pub two_hex_digits : ℕ → List ℕ
two_hex_digits b = hex_digit (b / 16) ∷ hex_digit (b % 16) ∷ []

-- the text of a watched RAM nibble: its bank number, a dot, and its SRC byte
abbrev pub watch_text : ℕ → List ℕ
watch_text w = digit_text (w / 256) ++ codes "." ++ two_hex_digits (w % 256)

-- the answer to `watches`: the watched RAM nibbles in ascending order, or a dash if there are none
abbrev pub watches_text : List ℕ → List ℕ
watches_text watches = codes "watches " ++ or_dash (join_by watch_text (codes " ") watches)

-- ---- items of the lists in the answer to `state`

-- a list with the item of a bank: the bank number, and the SRC byte that the bank stores; empty if
-- the bank has no chips
abbrev pub bank_items : BusState → ℕ → List (List ℕ)
bank_items s bank =
    if nat_lt 0 (chips_of s bank)
    then (digit_text bank ++ codes "." ++ two_hex_digits (slice_index s.ram_src bank)) ∷ []
    else []

-- A list with the item of a ROM: the chip number, the contents of the port latch, and the value
-- that the processor reads from the port. The list is empty if the ROM is absent.
abbrev pub rom_items : BusState → ℕ → List (List ℕ)
rom_items s chip =
    elim (rom_masks s.board chip) [
      | Some mask ↦
          (decimal chip
          ++ codes "." ++ digit_text (slice_index s.rom_ports chip)
          ++ codes "." ++ digit_text (port_at s chip)) ∷ []
      | None ↦ []
    ]

-- a list with the item of the key at a row and a column; empty if the key is up
abbrev pub key_item : BusState → ℕ → ℕ → List (List ℕ)
key_item s row column =
    if slice_index s.keys (key_index s.board row column) == 1
    then (digit_text row ++ codes "." ++ digit_text column) ∷ []
    else []

-- the items of those keys in row `row` that are down; the key matrix has `columns` columns
abbrev pub row_items : BusState → ℕ → ℕ → List (List ℕ)
row_items s columns row = flat_map (key_item s row) (range_with_len 0 columns)

-- the items of all keys that are down, row by row
abbrev pub key_items : BusState → List (List ℕ)
key_items s =
    elim s.board.keys [
      | Some m ↦ flat_map (row_items s (length m.columns.items)) (range_with_len 0 m.rows)
      | None ↦ []
    ]

-- the answer to `seq`: the number of accepted commands
abbrev pub seq_text : ℕ → List ℕ
seq_text seq = codes "seq " ++ decimal seq

-- ---- the state in one line

-- the items, separated by commas, or a dash if there are no items
abbrev pub comma_list : List (List ℕ) → List ℕ
comma_list [] = codes "-"
comma_list items = join_with_byte 44 items

-- the items of the RAM chips of a bank: for each chip, the bank number, the chip number, and the
-- contents of the port latch
abbrev pub ram_items : BusState → ℕ → List (List ℕ)
ram_items s bank = map (ram_port_text (codes ".") s bank) (range_with_len 0 (chips_of s bank))

-- the bits of chain `n` as one item, bit 0 first
abbrev pub chain_item : BusState → ℕ → List ℕ
chain_item s n = map (λ i. hex_digit (chain_bit s n i)) (range_with_len 0 (chain_bits s.board n))

-- the answer to `state`: a name and one word for each part of the state, except the board and the
-- contents of ROM and RAM
abbrev pub state_text : BenchState → List ℕ
state_text s =
    codes "state " ++ seq_text s.seq
    ++ codes " " ++ registers_text s.processor s.bus.test
    ++ codes " ret " ++ comma_list (map address_text s.processor.ret)
    ++ codes " src " ++ two_hex_digits s.bus.rom_src
    ++ codes " banks " ++ comma_list (flat_map (bank_items s.bus) (range_with_len 0 BANKS))
    ++ codes " roms " ++ comma_list (flat_map (rom_items s.bus) (range_with_len 0 ROMS))
    ++ codes " rams " ++ comma_list (flat_map (ram_items s.bus) (range_with_len 0 BANKS))
    ++ codes " chains "
    ++ comma_list (map (chain_item s.bus) (range_with_len 0 (chain_count s.bus.board)))
    ++ codes " keys " ++ comma_list (key_items s.bus)
    ++ codes " " ++ lamps_text s.bus
    ++ codes " breaks " ++ comma_list (map address_text s.breakpoints)
    ++ codes " watches " ++ comma_list (map watch_text s.watches)

-- the answer to a query, without the last line feed
abbrev pub text_of_query : Query → BenchState → List ℕ
text_of_query query.Lamps s = lamps_text s.bus
text_of_query query.Regs s = regs_text s.processor s.bus.test
text_of_query (query.Ram bank) s = join_with_byte line_feed (ram_lines s.bus bank)
text_of_query query.Breaks s = breaks_text s.breakpoints
text_of_query query.Watches s = watches_text s.watches
text_of_query query.Seq s = seq_text s.seq
text_of_query query.State s = state_text s
