-- A bank of 4002s as flat lists. Source: MCS-4 Users Manual, 4002: each chip has an output port and
-- four registers of 16 main nibbles and 4 status characters each. SRC selects a chip, a register
-- and a main nibble. Defined by Fethsaim, not by Intel: an absent chip reads as 0.
use Rattle.std.specs.Prelude.{◌≡◌, ℕ, ◌+◌, ◌*◌, ◌/◌, ◌%◌, ◌^◌, ◌<◌, ◌≤◌, List, [], All, replicate, slice_index, slice_set, length, take, if◌then◌else◌, nat_lt}
use Rattle.mcs_nibble.specs.Tables.{table_of, flat_rows, column}
use Rattle.mcs_ram4002.specs.declared.BankWrite.{BankWrite}
use Rattle.mcs_ram4002.specs.declared.BankWrite.TheVariants.{Character, Status, Port, Src}
use Rattle.mcs_ram4002.specs.declared.Chip.{Chip}

pub record BankState : Type 0 where
  -- the number of chips that are present
  pub chip_count : ℕ
  -- the SRC byte that the bank stores
  pub src : ℕ
  -- the 256 main nibbles, indexed by the SRC byte that selects them
  pub main : List ℕ
  -- the 64 status characters, at the indices that `status_cell_index` returns
  pub status : List ℕ
  -- the output port latches of chips 0 to 3
  pub ports : List ℕ

-- the index of status character `k` (0 to 3) of a register; `high` is the upper nibble of the SRC
-- byte that selects the register
abbrev pub status_cell_index : ℕ → ℕ → ℕ
status_cell_index high k = high * 4 + k

-- the number of the chip that an SRC byte selects
abbrev pub chip_of : ℕ → ℕ
chip_of src = src / 64

-- a bank whose first `chip_count` chips are present, with all contents 0
abbrev pub blank_bank : ℕ → BankState
blank_bank chip_count =
    record { chip_count = chip_count; src = 0; main = replicate 256 0; status = replicate 64 0; ports = replicate 4 0 }

-- ---- writes

-- holds if a write is within a bank: the number of a status character is 0 to 3, and so is the chip
-- number of a port write
abbrev pub IsInBank : BankWrite → Type 0
IsInBank (Character src n) = Unit {0}
IsInBank (Status high k n) = k < 4
IsInBank (Port chip n) = chip < 4
IsInBank (Src byte) = Unit {0}

-- the number of the chip that a write changes; 0 for an SRC byte
abbrev pub target_chip : BankWrite → ℕ
target_chip (Character src n) = chip_of src
target_chip (Status high k n) = high / 4
target_chip (Port chip n) = chip
target_chip (Src byte) = 0

-- the bank after a write to a chip that is present
abbrev pub with_write : BankState → BankWrite → BankState
with_write b (Character src n) = record b { main = slice_set b.main src n }
with_write b (Status high k n) = record b { status = slice_set b.status (status_cell_index high k) n }
with_write b (Port chip n) = record b { ports = slice_set b.ports chip n }
with_write b (Src byte) = record b { src = byte }

-- the bank after a write, which has no effect if the chip is absent
unfoldable pub after_write : BankState → BankWrite → BankState
after_write b write = if nat_lt (target_chip write) b.chip_count then with_write b write else b

-- ---- the properties of every bank

pub record HasFixedLengths (b : BankState) : Type 0 where
  pub main : length b.main ≡ 256
  pub status : length b.status ≡ 64
  pub ports : length b.ports ≡ 4

-- Holds if the lists have their fixed lengths, and each number is in its range. The contents of
-- absent chips are 0. The SRC byte of a bank without chips is 0.
pub record IsValidBank (b : BankState) : Type 0 where
  pub whole : HasFixedLengths b
  pub main : All (λ n. n < 16) b.main
  pub status : All (λ n. n < 16) b.status
  pub ports : All (λ n. n < 16) b.ports
  pub src : b.src < 256
  pub absent_main : (src : ℕ) → src < 256 → b.chip_count ≤ chip_of src → slice_index b.main src ≡ 0
  pub absent_status : (high k : ℕ) → high < 16 → k < 4 → b.chip_count ≤ high / 4 →
      slice_index b.status (status_cell_index high k) ≡ 0
  pub absent_port : (chip : ℕ) → chip < 4 → b.chip_count ≤ chip → slice_index b.ports chip ≡ 0
  pub absent_src : b.chip_count ≡ 0 → b.src ≡ 0

-- ---- the storage of the chips in a bank

-- half `k` of a byte: the lower half if `k` is 0, the upper half if `k` is 1
abbrev pub half_of : ℕ → ℕ → ℕ
half_of byte k = byte / 16 ^ k % 16

-- the nibbles in a list of bytes; each byte stores two nibbles, with the first nibble in the lower
-- half
unfoldable pub unpacked_nibbles : List ℕ → List ℕ
unpacked_nibbles bytes = table_of (2 * length bytes) (λ k. half_of (slice_index bytes (k / 2)) (k % 2))

-- the main nibbles of a chip, in order of index
abbrev pub main_cells_of : Chip → List ℕ
main_cells_of c = unpacked_nibbles c.main

-- the status characters of a chip, in order of index
abbrev pub status_cells_of : Chip → List ℕ
status_cells_of c = unpacked_nibbles c.status

-- the contents of a chip: its main nibbles, its status characters and its port latch
pub record ChipState : Type 0 where
  -- the main nibbles, at index `register * 16 + nibble number`
  pub main : List ℕ
  -- the status characters, at index `register * 4 + status character number`
  pub status : List ℕ
  pub port : ℕ

-- the contents of a chip, unpacked from its bytes
abbrev pub contents_of_chip : Chip → ChipState
contents_of_chip c = record { main = main_cells_of c; status = status_cells_of c; port = c.port }

-- an absent chip: it has no nibbles, and its port latch is 0
abbrev pub absent_chip : Chip
absent_chip = record { main = []; status = []; port = 0 }

-- the bank whose chips are the first `chip_count` chips of the list, with the SRC byte `src`
abbrev pub bank_of : List Chip → ℕ → ℕ → BankState
bank_of chips chip_count src = record {
  chip_count = chip_count;
  src = src;
  main = flat_rows 4 64 main_cells_of absent_chip (take chip_count chips);
  status = flat_rows 4 16 status_cells_of absent_chip (take chip_count chips);
  ports = column 4 (λ c. c.port) absent_chip (take chip_count chips);
}

pub record IsSizedChip (c : Chip) : Type 0 where
  pub main : length (main_cells_of c) ≡ 64
  pub status : length (status_cells_of c) ≡ 16

pub record IsValidChip (c : Chip) : Type 0 where
  pub main : All (λ n. n < 16) (main_cells_of c)
  pub status : All (λ n. n < 16) (status_cells_of c)
  pub port : c.port < 16

-- the contents of a chip after a bank write to this chip
abbrev pub chip_after : ChipState → BankWrite → ChipState
chip_after c (Character src n) = record c { main = slice_set c.main (src % 64) n }
chip_after c (Status high k n) = record c { status = slice_set c.status (high % 4 * 4 + k) n }
chip_after c (Port chip n) = record c { port = n }
chip_after c (Src byte) = c

-- the SRC byte that a bank stores after a write; `src` is the byte before the write
abbrev pub src_after : BankWrite → ℕ → ℕ
src_after (Character at n) src = src
src_after (Status high k n) src = src
src_after (Port chip n) src = src
src_after (Src byte) src = byte
