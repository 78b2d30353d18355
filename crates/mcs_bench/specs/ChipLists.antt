-- Lists of the values in a board's chips, and a test for elements whose chip is absent. (Defined by
-- Fethsaim, not by Intel.)
use Rattle.std.specs.Prelude.{◌≡◌, ℕ, ◌<◌, ◌/◌, ◌%◌, Bool, true, List, is_none, nat_le, slice_index, slice_set, if◌then◌else◌}
use Rattle.mcs_model.specs.declared.board.BoardParts.{BoardParts}
use Rattle.mcs_model.specs.Boards.{rom_masks, has_key, key_index}
use Rattle.mcs_model.specs.Bus.{BusState}
use Rattle.mcs_bench.specs.declared.chip_list.ChipList.{ChipList}
use Rattle.mcs_bench.specs.declared.chip_list.ChipList.TheVariants.{RomBytes, RamNibbles, StatusCharacters, RamPorts, BankSrcBytes}

-- the list of all values of the given kind in a state
abbrev pub chip_list_in : BusState → ChipList → List ℕ
chip_list_in s RomBytes = s.rom
chip_list_in s RamNibbles = s.ram
chip_list_in s StatusCharacters = s.status
chip_list_in s RamPorts = s.ram_ports
chip_list_in s BankSrcBytes = s.ram_src

-- the state after its list of the given kind is replaced by `xs`
abbrev pub with_chip_list : BusState → ChipList → List ℕ → BusState
with_chip_list s RomBytes xs = record s { rom = xs }
with_chip_list s RamNibbles xs = record s { ram = xs }
with_chip_list s StatusCharacters xs = record s { status = xs }
with_chip_list s RamPorts xs = record s { ram_ports = xs }
with_chip_list s BankSrcBytes xs = record s { ram_src = xs }

-- the length of a list
abbrev pub chip_list_length : ChipList → ℕ
chip_list_length RomBytes = 4096
chip_list_length RamNibbles = 2048
chip_list_length StatusCharacters = 512
chip_list_length RamPorts = 32
chip_list_length BankSrcBytes = 8

-- the limit of the elements of a list; each element is below this number
abbrev pub chip_value_limit : ChipList → ℕ
chip_value_limit RomBytes = 256
chip_value_limit BankSrcBytes = 256
chip_value_limit _ = 16

-- true if the board lacks the chip that holds element `i` of a list
abbrev pub is_chip_absent : BoardParts → ChipList → ℕ → Bool
is_chip_absent b RomBytes i = is_none (rom_masks b (i / 256))
is_chip_absent b RamNibbles i = nat_le (slice_index b.banks (i / 256)) (i % 256 / 64)
is_chip_absent b StatusCharacters i = nat_le (slice_index b.banks (i / 64)) (i % 64 / 16)
is_chip_absent b RamPorts i = nat_le (slice_index b.banks (i / 4)) (i % 4)
is_chip_absent b BankSrcBytes i = nat_le (slice_index b.banks i) 0

-- holds if all elements of a list that belong to absent chips are 0
abbrev pub IsZeroWhereAbsent : BusState → ChipList → Type 0
IsZeroWhereAbsent s h =
    (i : ℕ) → i < chip_list_length h → is_chip_absent s.board h i ≡ true → slice_index (chip_list_in s h) i ≡ 0

-- The state after element `i` of the list `h` is set to `n`. If the chip of that element is absent,
-- the state is unchanged.
abbrev pub with_chip_value : BusState → ChipList → ℕ → ℕ → BusState
with_chip_value s h i n =
    if is_chip_absent s.board h i
    then s
    else with_chip_list s h (slice_set (chip_list_in s h) i n)

-- holds if `columns` is above 0, the board has a key at row `i / columns` and column `i % columns`,
-- and the index of this key is `i`
pub record IsKeyAt (b : BoardParts) (columns i : ℕ) : Type 0 where
  pub some : 0 < columns
  pub key_exists : has_key b (i / columns) (i % columns) ≡ true
  pub index : key_index b (i / columns) (i % columns) ≡ i
