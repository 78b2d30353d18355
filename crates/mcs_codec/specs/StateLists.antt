-- The lists in a bench's state that are written as one byte for each item.
use Rattle.std.specs.Prelude.{ℕ, List, [], slice_index_or}
use Rattle.mcs_model.specs.Boards.{chain_bits, key_count}
use Rattle.mcs_model.specs.BenchState.{BenchState}
use Rattle.mcs_bench.specs.ChipLists.{chip_list_length, chip_list_in}
use Rattle.mcs_codec.specs.declared.saving.StateList.{StateList}
use Rattle.mcs_codec.specs.declared.saving.StateList.TheVariants.{Chips, RomPorts, IndexRegisters, ChainBits, Keys}

abbrev pub list_in_state : StateList → BenchState → List ℕ
list_in_state (Chips list) s = chip_list_in s.bus list
list_in_state RomPorts s = s.bus.rom_ports
list_in_state IndexRegisters s = s.processor.r
list_in_state (ChainBits n) s = slice_index_or s.bus.chains n []
list_in_state Keys s = s.bus.keys

-- the number of items in a list
abbrev pub state_list_length : StateList → BenchState → ℕ
state_list_length (Chips list) s = chip_list_length list
state_list_length RomPorts s = 16
state_list_length IndexRegisters s = 16
state_list_length (ChainBits n) s = chain_bits s.bus.board n
state_list_length Keys s = key_count s.bus.board
