-- The bus after a change of one location, after a reset, and after a change of the board. In the
-- definitions whose names begin with `with_`, except `with_rom_bytes`, the last argument is the new
-- value. (Defined by Fethsaim, not by Intel: writes to absent chips are lost, and latch bits of
-- input lines stay 0. Fethsaim also defines which contents a reset and a new board clear.)
use Rattle.std.specs.Prelude.{ℕ, ◌*◌, ◌/◌, List, [], ◌∷◌, Some, None, is_some, map, replicate, slice_index, slice_index_or, slice_set, if◌then◌else◌, nat_lt}
use Rattle.mcs_nibble.specs.Tables.{table_of}
use Rattle.mcs_nibble.specs.Ports.{latch_value}
use Rattle.mcs_model.specs.declared.board.BoardParts.{BoardParts}
use Rattle.mcs_model.specs.declared.board.ChainPart.{ChainPart}
use Rattle.mcs_model.specs.Boards.{rom_masks, key_count, key_index}
use Rattle.mcs_model.specs.Bus.{BusState, chips_of, ram_port_index, zero_bus}
use Rattle.mcs_model.specs.Levels.{with_rom_ports_at, with_ram_ports_at}

-- the bus after a write to the ROM byte at an address; the write is lost if the ROM is absent
unfoldable pub with_rom_byte : BusState → ℕ → ℕ → BusState
with_rom_byte s at byte =
    if is_some (rom_masks s.board (at / 256))
    then record s { rom = slice_set s.rom at byte }
    else s

-- the bus after each byte of an image is written to ROM at its address
abbrev pub with_rom_bytes : BusState → List (ℕ × ℕ) → BusState
with_rom_bytes s [] = s
with_rom_bytes s (p ∷ image) = with_rom_bytes (with_rom_byte s p.0 p.1) image

-- the bus after a write to the port latch of a RAM chip; no chain is clocked, and the write is lost
-- if the chip is absent
unfoldable pub with_ram_latch : BusState → ℕ → ℕ → ℕ → BusState
with_ram_latch s bank chip n =
    if nat_lt chip (chips_of s bank)
    then with_ram_ports_at s (ram_port_index bank chip) n
    else s

-- The bus after a write of `n` to the port latch of a ROM; no chain is clocked. The latch bits of
-- output lines become the bits of `n`, and the latch bits of input lines become 0. The write is
-- lost if the ROM is absent.
unfoldable pub with_rom_latch : BusState → ℕ → ℕ → BusState
with_rom_latch s chip n =
    elim (rom_masks s.board chip) [
      | Some mask ↦ with_rom_ports_at s chip (latch_value mask n)
      | None ↦ s
    ]

-- the bus after a write to the SRC byte that a bank stores; the SRC byte of a bank without chips
-- stays 0
unfoldable pub with_ram_src : BusState → ℕ → ℕ → BusState
with_ram_src s bank byte =
    if nat_lt 0 (chips_of s bank)
    then record s { ram_src = slice_set s.ram_src bank byte }
    else s

-- the bus after bit `i` of chain `n` is set to `bit`; nothing is shifted
abbrev pub with_chain_bit : BusState → ℕ → ℕ → ℕ → BusState
with_chain_bit s n i bit =
    record s { chains = slice_set s.chains n (slice_set (slice_index_or s.chains n []) i bit) }

-- the bus after the key at a row and a column is set: 1 for down, 0 for up
abbrev pub with_key : BusState → ℕ → ℕ → ℕ → BusState
with_key s row column bit = record s { keys = slice_set s.keys (key_index s.board row column) bit }

-- the chains of a board, with all bits 0
abbrev pub zero_chains : BoardParts → List (List ℕ)
zero_chains b = map (λ (c : ChainPart). replicate (10 * c.chips) 0) b.chains.items

-- the bus after a power cycle: the board, ROM, keys and TEST are unchanged; everything else (RAM,
-- port latches, SRC bytes, chains) becomes 0, and nothing is shifted
abbrev pub after_reset : BusState → BusState
after_reset s = record zero_bus {
  board = s.board;
  rom = s.rom;
  chains = zero_chains s.board;
  keys = s.keys;
  test = s.test;
}

-- the ROM bytes, with 0 for all bytes of ROMs that are not on the board
unfoldable pub rom_of_board : BoardParts → List ℕ → List ℕ
rom_of_board b rom =
    table_of 4096 (λ at. if is_some (rom_masks b (at / 256)) then slice_index rom at else 0)

-- The bus after the board is replaced. All keys are up, and everything that a reset clears is 0.
-- The bytes of ROMs that are not on the new board become 0.
abbrev pub after_board_change : BusState → BoardParts → BusState
after_board_change s b = record (after_reset (record s { board = b })) {
  rom = rom_of_board b s.rom;
  keys = replicate (key_count b) 0;
}
