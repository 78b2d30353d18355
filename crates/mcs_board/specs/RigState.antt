-- The flat state of a rig (`BusState`), from its chips. (Defined by Fethsaim, not by Intel.) A
-- ROM's number is its page. A bank's number is the value of the command register that selects the
-- bank.
use Rattle.std.specs.Prelude.{◌≡◌, ℕ, ◌/◌, ◌<◌, ◌≤◌, List, [], Option, Some, None, slice_index, slice_index_or, length}
use Rattle.mcs_nibble.specs.Tables.{table_of, column, flat_rows}
use Rattle.mcs_nibble.specs.declared.lines.LineMask.{LineMask}
use Rattle.mcs_ram4002.specs.declared.BankWrite.{BankWrite}
use Rattle.mcs_ram4002.specs.declared.BankWrite.TheVariants.{Character, Status, Port, Src}
use Rattle.mcs_ram4002.specs.RamBank.{BankState}
use Rattle.mcs_rom4001.specs.Roms.{PortState}
use Rattle.mcs_model.specs.declared.board.BoardParts.{BoardParts}
use Rattle.mcs_model.specs.Boards.{rom_masks, chain_count, chain_bits, key_count}
use Rattle.mcs_model.specs.Bus.{BusState, with_ram, with_status}
use Rattle.mcs_model.specs.ChipWrites.{with_ram_latch, with_ram_src}

-- an absent bank, in which every value reads as 0
abbrev pub absent_bank : BankState
absent_bank = record { chip_count = 0; src = 0; main = []; status = []; ports = [] }

-- the port latch of a ROM; 0 if the ROM is absent
abbrev pub latch_of_rom : Option PortState → ℕ
latch_of_rom (Some r) = r.port
latch_of_rom None = 0

-- the line masks of a ROM; none if the ROM is absent
abbrev pub masks_of_rom : Option PortState → Option (List LineMask)
masks_of_rom (Some r) = Some r.mask
masks_of_rom None = None

-- the bits of each chain on the board, from the rig's chain sockets
abbrev pub wired_chains : BoardParts → List (List ℕ) → List (List ℕ)
wired_chains b chains = table_of (chain_count b) (λ i. slice_index_or chains i [])

-- the contents of a rig: a board, the chips in its sockets, and its keys
pub record RigParts : Type 0 where
  pub board : BoardParts
  pub roms : List (Option PortState)
  -- the ROM bytes, indexed by address
  pub program : List ℕ
  pub banks : List BankState
  pub chains : List (List ℕ)
  pub keys : List ℕ
  pub rom_src : ℕ
  pub test : ℕ

-- the flat state of a rig with these contents
abbrev pub state_of_rig : RigParts → BusState
state_of_rig p = record {
  board = p.board;
  rom = p.program;
  ram = flat_rows 8 256 (λ b. b.main) absent_bank p.banks;
  status = flat_rows 8 64 (λ b. b.status) absent_bank p.banks;
  ram_ports = flat_rows 8 4 (λ b. b.ports) absent_bank p.banks;
  rom_ports = column 16 latch_of_rom None p.roms;
  rom_src = p.rom_src;
  ram_src = column 8 (λ b. b.src) absent_bank p.banks;
  chains = wired_chains p.board p.chains;
  keys = p.keys;
  test = p.test;
}

-- Holds if a rig's chips match its board. Each list of sockets has the given length, and the
-- board's chains fit the sockets. Each ROM has the board's line masks, each bank the board's number
-- of chips, and each chain the board's number of bits. There is one key state for each key. There
-- are 4,096 ROM bytes, and those of absent ROMs are 0. The SRC byte of the ROMs is below 256.
pub record MatchesBoard (p : RigParts) (rom_sockets bank_sockets chain_sockets : ℕ) : Type 0 where
  pub roms_len : length p.roms ≡ rom_sockets
  pub banks_len : length p.banks ≡ bank_sockets
  pub chains_len : length p.chains ≡ chain_sockets
  pub keys_len : length p.keys ≡ key_count p.board
  pub chains_fit : chain_count p.board ≤ chain_sockets
  pub program_len : length p.program ≡ 4096
  pub absent : (at : ℕ) → rom_masks p.board (at / 256) ≡ None → slice_index p.program at ≡ 0
  pub masks : (k : ℕ) → masks_of_rom (slice_index_or p.roms k None) ≡ rom_masks p.board k
  pub chip_count : (k : ℕ) → (slice_index_or p.banks k absent_bank).chip_count ≡ slice_index p.board.banks k
  pub bits : (i : ℕ) → i < chain_count p.board → length (slice_index_or p.chains i []) ≡ chain_bits p.board i
  pub src : p.rom_src < 256

-- the flat state after a write to a bank
abbrev pub after_bank_write : BusState → ℕ → BankWrite → BusState
after_bank_write s bank (Character src n) = with_ram s bank src n
after_bank_write s bank (Status high k n) = with_status s bank high k n
after_bank_write s bank (Port chip n) = with_ram_latch s bank chip n
after_bank_write s bank (Src byte) = with_ram_src s bank byte
