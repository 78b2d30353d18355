-- The bytes that encode a state, in groups of fields, in both versions. An address and a watch take
-- two bytes each, the count of commands takes four, and every other number takes one. (Defined by
-- Fethsaim, not by Intel.)
use Rattle.std.specs.Prelude.{ℕ, List, [], ◌∷◌, ◌++◌}
use Rattle.std.specs.List.{flat_map}
use Rattle.std.specs.Int.{w32, to_be_bytes}
use Rattle.mcs_model.specs.declared.regs.Regs.{Regs}
use Rattle.mcs_model.specs.Bus.{BusState}
use Rattle.mcs_model.specs.BenchState.{BenchState}
use Rattle.mcs_codec.specs.BoardBytes.{board_bytes, counted_bytes}
use Rattle.mcs_codec.specs.CommandBytes.{address_bytes}
use Rattle.mcs_version1.specs.BenchState.{BenchState1}

-- the bytes of the ROMs, the main nibbles and the status characters of the RAM chips, and the port
-- latches of the RAM chips and of the ROMs
abbrev pub memory_bytes : BusState → List ℕ
memory_bytes b = b.rom ++ (b.ram ++ (b.status ++ (b.ram_ports ++ b.rom_ports)))

-- the accumulator, the carry, the index registers, the program counter and the return addresses
abbrev pub registers_bytes : Regs → List ℕ
registers_bytes p = p.acc ∷ p.cy ∷ (p.r ++ (address_bytes p.pc ++ flat_map address_bytes p.ret))

-- the command register, the SRC byte of the ROMs, the SRC byte of each bank, and 1 if a second
-- cycle is pending, else 0
abbrev pub src_bytes : Regs → BusState → List ℕ
src_bytes p b = p.dcl ∷ b.rom_src ∷ (b.ram_src ++ p.owed ∷ [])

-- the bits of the chains, the states of the keys, the TEST level and the breakpoints
abbrev pub chains_to_breakpoints_bytes : BusState → List ℕ → List ℕ
chains_to_breakpoints_bytes b breakpoints =
    flat_map (λ bits. bits) b.chains ++ (b.keys ++ (b.test ∷ counted_bytes address_bytes breakpoints))

-- the four groups of fields after the board, and then `rest`
abbrev pub field_group_bytes : Regs → BusState → List ℕ → List ℕ → List ℕ
field_group_bytes p b breakpoints rest =
    memory_bytes b
    ++ (registers_bytes p
    ++ (src_bytes p b
    ++ (chains_to_breakpoints_bytes b breakpoints
    ++ rest)))

-- The bytes after the board in version 2: the groups of fields and the watches. Each watch is the
-- number `bank * 256 + SRC byte`, in two bytes.
abbrev pub bytes_after_board : BenchState → List ℕ
bytes_after_board s = field_group_bytes s.processor s.bus s.breakpoints (counted_bytes address_bytes s.watches)

-- a state in version 2: the count of accepted commands, the byte 02, the board, the groups of
-- fields and the watches
abbrev pub state_bytes : BenchState → List ℕ
state_bytes s = to_be_bytes w32 s.seq ++ (2 ∷ (board_bytes s.bus.board ++ bytes_after_board s))

-- a state in version 1: the count of accepted commands, the board and the groups of fields
abbrev pub state_bytes_1 : BenchState1 → List ℕ
state_bytes_1 s =
    to_be_bytes w32 s.seq
    ++ (board_bytes s.bus.board
    ++ field_group_bytes s.processor s.bus s.breakpoints [])
