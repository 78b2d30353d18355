-- The agreement of two buses in every chip that the board has.
use Rattle.std.specs.Prelude.{◌≡◌, ◌<◌, ◌/◌, ℕ, List, Some, slice_index}
use Rattle.mcs_nibble.specs.declared.lines.LineMask.{LineMask}
use Rattle.mcs_model.specs.Boards.{rom_masks}
use Rattle.mcs_model.specs.Bus.{BusState, chips_of, ram_index, status_index, ram_port_index}
use Rattle.mcs_model.specs.Validity.{IsValidBus}

-- holds if two buses have the same board, ROM bytes and input levels, and each cell of a chip on
-- this board has the same value in both
pub record AgreesInChips (s t : BusState) : Type 0 where
  pub board : s.board ≡ t.board
  pub rom : s.rom ≡ t.rom
  pub ram : (bank src : ℕ) → src < 256 → src / 64 < chips_of s bank →
      slice_index s.ram (ram_index bank src) ≡ slice_index t.ram (ram_index bank src)
  pub status : (bank high k : ℕ) → high < 16 → k < 4 → high / 4 < chips_of s bank →
      slice_index s.status (status_index bank high k) ≡ slice_index t.status (status_index bank high k)
  pub ram_ports : (bank chip : ℕ) → chip < 4 → chip < chips_of s bank →
      slice_index s.ram_ports (ram_port_index bank chip) ≡ slice_index t.ram_ports (ram_port_index bank chip)
  pub rom_ports : (chip : ℕ) (mask : List LineMask) → rom_masks s.board chip ≡ Some mask →
      slice_index s.rom_ports chip ≡ slice_index t.rom_ports chip
  pub rom_src : s.rom_src ≡ t.rom_src
  pub ram_src : (bank : ℕ) → 0 < chips_of s bank → slice_index s.ram_src bank ≡ slice_index t.ram_src bank
  pub chains : s.chains ≡ t.chains
  pub keys : s.keys ≡ t.keys
  pub test : s.test ≡ t.test

-- two valid buses are equal if they agree in every chip that their board has. A state vector
-- therefore needs no cells of absent chips.
abbrev pub AgreeingBusesAreEqual : Type 0
AgreeingBusesAreEqual = (s t : BusState) → IsValidBus s → IsValidBus t → AgreesInChips s t → s ≡ t
