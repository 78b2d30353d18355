-- The state outside the processor: the board, the contents of its chips, its keys and the TEST pin.
-- (MCS-4 Users Manual and data sheets, as each definition says. Four rules are defined by Fethsaim,
-- not by Intel. Logic is positive: level 1 is the bit 1. The value of the command register, 0 to 7,
-- is the bank number. Each bank stores its own SRC byte. Absent parts contain 0, read as 0 and
-- ignore writes.)
use Rattle.std.specs.Prelude.{ℕ, ◌+◌, ◌*◌, ◌/◌, List, [], replicate, Bool, slice_index, slice_set, if◌then◌else◌, nat_lt}
use Rattle.mcs_model.specs.declared.board.BoardParts.{BoardParts}
use Rattle.mcs_model.specs.Boards.{empty_parts}

-- The state of the bus. The comments give the fixed lengths of lists in a valid state (`IsInRange`
-- of the module `Validity`), and the entries that are 0 because a part is absent
-- (`AbsentPartsAreZero`). `fetch_of`, `ram_of` and `status_of` give 0 for absent chips only because
-- these entries are 0.
pub record BusState : Type 0 where
  pub board : BoardParts
  -- the 4,096 ROM bytes, indexed by address; the bytes of absent ROMs are 0
  pub rom : List ℕ
  -- the 2,048 RAM nibbles, indexed by `ram_index`; absent nibbles are 0
  pub ram : List ℕ
  -- the 512 status characters, indexed by `status_index`; absent status characters are 0
  pub status : List ℕ
  -- the 32 port latches of the RAM chips, indexed by `ram_port_index`; absent latches are 0
  pub ram_ports : List ℕ
  -- the 16 port latches of the ROMs; absent latches, and the latch bits of input lines, are 0
  pub rom_ports : List ℕ
  -- the SRC byte that the ROMs store
  pub rom_src : ℕ
  -- the SRC byte that each of the 8 banks stores; 0 in a bank without chips
  pub ram_src : List ℕ
  -- the bits of each chain, bit 0 first
  pub chains : List (List ℕ)
  -- the states of the keys, row by row: 1 for a key that is down
  pub keys : List ℕ
  -- the level of the TEST pin, set by a command; 1 in a new session (defined by Fethsaim, not by
  -- Intel)
  pub test : ℕ

-- the state with the empty board and all contents 0
unfoldable pub zero_bus : BusState
zero_bus = record {
  board = empty_parts;
  rom = replicate 4096 0;
  ram = replicate 2048 0;
  status = replicate 512 0;
  ram_ports = replicate 32 0;
  rom_ports = replicate 16 0;
  rom_src = 0;
  ram_src = replicate 8 0;
  chains = [];
  keys = [];
  test = 0;
}

-- the ROM byte at an address (4001 data sheet); an absent ROM reads as 00 (defined by Fethsaim, not
-- by Intel)
unfoldable pub fetch_of : BusState → ℕ → ℕ
fetch_of s at = slice_index s.rom at

-- the number of chips in a bank; the bank number is the value of the command register (defined by
-- Fethsaim, not by Intel)
abbrev pub chips_of : BusState → ℕ → ℕ
chips_of s bank = slice_index s.board.banks bank

-- the SRC byte that a bank stores: its upper two bits select the chip, the next two the register,
-- and the lower four bits the RAM nibble (4002 data sheet)
abbrev pub src_of : BusState → ℕ → ℕ
src_of s bank = slice_index s.ram_src bank

-- true if a bank has the chip that an SRC byte selects
abbrev pub has_chip : BusState → ℕ → ℕ → Bool
has_chip s bank src = nat_lt (src / 64) (chips_of s bank)

-- The bus after SRC sends a byte. The ROMs store the byte, and so does the designated bank if the
-- bank has chips (MCS-4 Users Manual, SRC). Fethsaim, not Intel, specifies that the other banks
-- keep their SRC bytes.
unfoldable pub after_src : BusState → ℕ → ℕ → BusState
after_src s bank byte =
    if nat_lt 0 (chips_of s bank)
    then record s { rom_src = byte; ram_src = slice_set s.ram_src bank byte }
    else record s { rom_src = byte }

-- the index of the RAM nibble that an SRC byte selects in a bank
abbrev pub ram_index : ℕ → ℕ → ℕ
ram_index bank src = bank * 256 + src

-- the selected RAM nibble of a bank (4002 data sheet); an absent nibble reads as 0 (defined by
-- Fethsaim, not by Intel)
unfoldable pub ram_of : BusState → ℕ → ℕ
ram_of s bank = slice_index s.ram (ram_index bank (src_of s bank))

-- The bus after a write to the RAM nibble that an SRC byte selects in a bank (4002 data sheet). The
-- write is lost if the chip is absent (defined by Fethsaim, not by Intel).
unfoldable pub with_ram : BusState → ℕ → ℕ → ℕ → BusState
with_ram s bank src n =
    if has_chip s bank src
    then record s { ram = slice_set s.ram (ram_index bank src) n }
    else s

-- the bus after a write to the selected RAM nibble of a bank
unfoldable pub after_ram : BusState → ℕ → ℕ → BusState
after_ram s bank n = with_ram s bank (src_of s bank) n

-- the index of status character `k` in a bank; `high`, the upper nibble of an SRC byte, selects the
-- chip and the register
abbrev pub status_index : ℕ → ℕ → ℕ → ℕ
status_index bank high k = bank * 64 + (high * 4 + k)

-- status character `k` of the selected register of a bank (4002 data sheet); an absent character
-- reads as 0 (defined by Fethsaim, not by Intel)
unfoldable pub status_of : BusState → ℕ → ℕ → ℕ
status_of s bank k = slice_index s.status (status_index bank (src_of s bank / 16) k)

-- the index of the port latch of a RAM chip, from its bank number and chip number
abbrev pub ram_port_index : ℕ → ℕ → ℕ
ram_port_index bank chip = bank * 4 + chip

-- The bus after a write to status character `k` in a bank. `high`, the upper nibble of an SRC byte,
-- selects the chip and the register (4002 data sheet). The write is lost if the chip is absent
-- (defined by Fethsaim, not by Intel).
unfoldable pub with_status : BusState → ℕ → ℕ → ℕ → ℕ → BusState
with_status s bank high k n =
    if nat_lt (high / 4) (chips_of s bank)
    then record s { status = slice_set s.status (status_index bank high k) n }
    else s

-- the bus after a write to status character `k` of the selected register of a bank
unfoldable pub after_status : BusState → ℕ → ℕ → ℕ → BusState
after_status s bank k n = with_status s bank (src_of s bank / 16) k n
