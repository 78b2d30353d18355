-- The levels of lines, and port reads and writes. (4001, 4002 and 4003 data sheets, as each
-- definition says. Fethsaim, not Intel, specifies positive logic: a line at level 1 carries the bit
-- 1.)
use Rattle.std.specs.Prelude.{ℕ, ◌+◌, ◌*◌, ◌/◌, Bool, false, ◌&&◌, ◌==◌, List, [], Some, None, length, slice_index, slice_index_or, slice_set, if◌then◌else◌}
use Rattle.std.specs.List.{list_any, range_with_len}
use Rattle.mcs_nibble.specs.Bits.{bit_of}
use Rattle.mcs_nibble.specs.Ports.{latch_value, read_lines}
use Rattle.mcs_nibble.specs.Shifting.{bits_after_shift}
use Rattle.mcs_nibble.specs.Tables.{table_of}
use Rattle.mcs_model.specs.declared.board.KeyMatrix.{KeyMatrix}
use Rattle.mcs_model.specs.declared.board.Line.{Line}
use Rattle.mcs_model.specs.declared.board.Line.TheVariants.{Rom, Ram, Chain}
use Rattle.mcs_model.specs.Boards.{rom_masks, is_rom_input_line, chain_part, chain_count}
use Rattle.mcs_model.specs.Bus.{BusState, src_of, has_chip, ram_port_index}

abbrev pub bit_when : Bool → ℕ
bit_when b = if b then 1 else 0

-- bit `i` of chain `n`
abbrev pub chain_bit : BusState → ℕ → ℕ → ℕ
chain_bit s n i = slice_index (slice_index_or s.chains n []) i

-- true if the line is line `k` of ROM `chip`
abbrev pub is_rom_line : ℕ → ℕ → Line → Bool
is_rom_line chip k (Rom c j) = c == chip && j == k
is_rom_line chip k _ = false

-- true if row `r` drives column `j`: the chain bit of the row is 1, and the key at that row and
-- column is down
abbrev pub row_drives_column : List ℕ → List ℕ → KeyMatrix → ℕ → ℕ → Bool
row_drives_column bits keys m j r =
    slice_index bits (m.first + r) == 1 && slice_index keys (r * length m.columns.items + j) == 1

-- true if at least one row drives a column that is connected to line `k` of ROM `chip`
abbrev pub is_pulled_by : List ℕ → List ℕ → KeyMatrix → ℕ → ℕ → Bool
is_pulled_by bits keys m chip k =
    list_any
    (λ j. is_rom_line chip k (slice_index_or m.columns.items j (Rom 0 0))
    && list_any (row_drives_column bits keys m j) (range_with_len 0 m.rows))
    (range_with_len 0 (length m.columns.items))

-- true if a key pulls line `k` of ROM `chip` to 1 (each key has a diode: defined by Fethsaim, not
-- by Intel)
unfoldable pub is_pulled : BusState → ℕ → ℕ → Bool
is_pulled s chip k =
    elim s.board.keys [
      | None ↦ false
      | Some m ↦ is_pulled_by (slice_index_or s.chains m.chain []) s.keys m chip k
    ]

-- the latch bit of a port line; 0 for a chain output, which has no port latch
unfoldable pub latch_of : BusState → Line → ℕ
latch_of s (Rom c k) = bit_of (slice_index s.rom_ports c) k
latch_of s (Ram b c k) = bit_of (slice_index s.ram_ports (ram_port_index b c)) k
latch_of s _ = 0

-- The level of a line. An output line has the level of its latch bit, and a chain output has the
-- level of its chain bit. An input line has the level 1 if a key pulls it to 1, and otherwise the
-- level 0.
unfoldable pub level : BusState → Line → ℕ
level s (Rom c k) = if is_rom_input_line s.board c k then bit_when (is_pulled s c k) else latch_of s (Rom c k)
level s (Ram b c k) = latch_of s (Ram b c k)
level s (Chain n i) = chain_bit s n i

-- the levels of the clock lines of all chains
unfoldable pub clock_levels : BusState → List ℕ
clock_levels s = table_of (chain_count s.board) (λ i. level s (chain_part s.board i).clock)

-- The bits of chain `i` after a port write. `s` is the bus after the write, before any shift;
-- `old_level` is the level of the clock line before the write. If the clock line rises from 0 to 1,
-- each bit moves up by one position. The level of the data line becomes bit 0, and the last bit is
-- lost. (4003 data sheet: a shift register with a serial input. Fethsaim, not Intel, defines the
-- clock edge, the bit order and the data level.)
unfoldable pub chain_bits_after_clock : BusState → ℕ → ℕ → List ℕ → List ℕ
chain_bits_after_clock s i old_level bits =
    if old_level == 0 && level s (chain_part s.board i).clock == 1
    then bits_after_shift (level s (chain_part s.board i).data_in) bits
    else bits

-- the bus after the shift of each chain whose clock line rose; `before` contains the levels of the
-- clock lines before the port write
unfoldable pub after_chain_clocks : List ℕ → BusState → BusState
after_chain_clocks before s = record s {
  chains = table_of (chain_count s.board) (λ i. chain_bits_after_clock s i (slice_index before i) (slice_index_or s.chains i []));
}

-- the bus with the port latch of ROM `c` set to `n`; no chain is clocked
abbrev pub with_rom_ports_at : BusState → ℕ → ℕ → BusState
with_rom_ports_at s c n = record s { rom_ports = slice_set s.rom_ports c n }

-- the bus with the RAM port latch at index `i` (`ram_port_index`) set to `n`; no chain is clocked
abbrev pub with_ram_ports_at : BusState → ℕ → ℕ → BusState
with_ram_ports_at s i n = record s { ram_ports = slice_set s.ram_ports i n }

-- The bus after a write to the port of the selected RAM chip of a bank (4002 data sheet, WMP). Each
-- chain whose clock line rises is shifted. A write to an absent chip is lost (defined by Fethsaim,
-- not by Intel).
unfoldable pub after_ram_port : BusState → ℕ → ℕ → BusState
after_ram_port s bank n =
    if has_chip s bank (src_of s bank)
    then after_chain_clocks (clock_levels s) (with_ram_ports_at s (ram_port_index bank (src_of s bank / 64)) n)
    else s

-- The bus after a write to the port of the selected ROM (4001 data sheet, WRR). Each chain whose
-- clock line rises is shifted. Latch bits of input lines stay 0, and a write to an absent ROM is
-- lost (defined by Fethsaim, not by Intel).
unfoldable pub after_rom_port : BusState → ℕ → BusState
after_rom_port s n =
    elim (rom_masks s.board (s.rom_src / 16)) [
      | Some mask ↦ after_chain_clocks (clock_levels s) (with_rom_ports_at s (s.rom_src / 16) (latch_value mask n))
      | None ↦ s
    ]

-- the value that the processor reads from the port of a ROM (4001 data sheet, RDR); an absent ROM
-- reads as 0 (defined by Fethsaim, not by Intel)
unfoldable pub port_at : BusState → ℕ → ℕ
port_at s chip =
    elim (rom_masks s.board chip) [
      | Some mask ↦ read_lines (λ k. bit_when (is_pulled s chip k)) mask
      | None ↦ 0
    ]

-- the value that the processor reads from the port of the selected ROM
abbrev pub port_of : BusState → ℕ
port_of s = port_at s (s.rom_src / 16)
