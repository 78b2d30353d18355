-- Valid flat states: the states that a bench can be in. (Defined by Fethsaim, not by Intel.)
use Rattle.std.specs.Prelude.{◌≡◌, ◌<◌, ◌≤◌, ◌/◌, ℕ, List, [], All, MatchOption, length, slice_index, slice_index_or, None}
use Rattle.std.specs.List.Sorted.{IsStrictlyIncreasing}
use Rattle.mcs_nibble.specs.Ports.{latch_value}
use Rattle.mcs_model.specs.declared.board.BoardParts.{BoardParts}
use Rattle.mcs_model.specs.declared.limits.TheConstants.{ACCEPTED_COMMANDS, BREAKPOINTS, WATCHES}
use Rattle.mcs_model.specs.declared.regs.Regs.{Regs}
use Rattle.mcs_model.specs.Boards.{HasDeclaredLengths, board_fault_of, rom_masks, chain_bits, chain_count, key_count}
use Rattle.mcs_model.specs.Bus.{BusState, ram_index, ram_port_index, status_index, chips_of}
use Rattle.mcs_model.specs.BenchState.{BenchState}

-- holds if the list has `count` numbers, each below `limit`
pub record AreBelow (count limit : ℕ) (items : List ℕ) : Type 0 where
  pub has_count : length items ≡ count
  pub below : All (λ n. n < limit) items

-- ---- the board

-- holds if the parts have no errors, and each list in the parts has a length that its type allows
pub record IsValidBoard (b : BoardParts) : Type 0 where
  pub sized : HasDeclaredLengths b
  pub valid : board_fault_of b ≡ None

-- ---- the contents of the chips

-- Holds if each number is in its range, and each list has the required length. There are as many
-- chains, chain bits and keys as the board has. All other lists are as long as a full board needs.
pub record IsInRange (s : BusState) : Type 0 where
  pub rom : AreBelow 4096 256 s.rom
  pub ram : AreBelow 2048 16 s.ram
  pub status : AreBelow 512 16 s.status
  pub ram_ports : AreBelow 32 16 s.ram_ports
  pub rom_ports : AreBelow 16 16 s.rom_ports
  pub rom_src : s.rom_src < 256
  pub ram_src : AreBelow 8 256 s.ram_src
  pub chains : length s.chains ≡ chain_count s.board
  pub chain_bits : (i : ℕ) → i < chain_count s.board →
      AreBelow (chain_bits s.board i) 2 (slice_index_or s.chains i [])
  pub keys : AreBelow (key_count s.board) 2 s.keys
  pub test : s.test < 2

-- holds if absent ROMs and RAM chips contain 0, and the SRC bytes of banks without chips and the
-- latch bits of input lines are 0
pub record AbsentPartsAreZero (s : BusState) : Type 0 where
  pub rom : (at : ℕ) → rom_masks s.board (at / 256) ≡ None → slice_index s.rom at ≡ 0
  pub ram : (bank src : ℕ) → src < 256 → chips_of s bank ≤ src / 64 →
      slice_index s.ram (ram_index bank src) ≡ 0
  pub status : (bank high k : ℕ) → high < 16 → k < 4 → chips_of s bank ≤ high / 4 →
      slice_index s.status (status_index bank high k) ≡ 0
  pub ram_ports : (bank chip : ℕ) → chip < 4 → chips_of s bank ≤ chip →
      slice_index s.ram_ports (ram_port_index bank chip) ≡ 0
  pub rom_ports : (chip : ℕ) → MatchOption (rom_masks s.board chip) (slice_index s.rom_ports chip ≡ 0)
      (λ mask. latch_value mask (slice_index s.rom_ports chip) ≡ slice_index s.rom_ports chip)
  pub ram_src : (bank : ℕ) → chips_of s bank ≡ 0 → slice_index s.ram_src bank ≡ 0

-- holds if the board, the contents of its chips, its keys and the TEST pin are valid
pub record IsValidBus (s : BusState) : Type 0 where
  pub board : IsValidBoard s.board
  pub in_range : IsInRange s
  pub absent : AbsentPartsAreZero s

-- ---- the processor

pub record IsValidRegs (s : Regs) : Type 0 where
  pub acc : s.acc < 16
  pub cy : s.cy < 2
  pub r : AreBelow 16 16 s.r
  pub pc : s.pc < 4096
  pub ret : AreBelow 3 4096 s.ret
  pub dcl : s.dcl < 8
  pub owed : s.owed < 2

-- ---- the whole bench

-- holds if the list has at most 32 addresses, in strictly ascending order
pub record AreBreakpoints (items : List ℕ) : Type 0 where
  pub few : length items ≤ BREAKPOINTS
  pub addresses : All (λ a. a < 4096) items
  pub rising : IsStrictlyIncreasing items

-- holds if the list has at most 8 indices of RAM nibbles (`ram_index`), in strictly ascending order
pub record AreWatches (items : List ℕ) : Type 0 where
  pub few : length items ≤ WATCHES
  pub indices : All (λ a. a < 2048) items
  pub rising : IsStrictlyIncreasing items

pub record IsValid (s : BenchState) : Type 0 where
  pub processor : IsValidRegs s.processor
  pub bus : IsValidBus s.bus
  pub breakpoints : AreBreakpoints s.breakpoints
  pub watches : AreWatches s.watches
  pub seq : s.seq ≤ ACCEPTED_COMMANDS
