-- The cells of a machine: the values that can differ between two machines with the same board and
-- the same program. A layout lists the bytes of a state vector. Each byte holds the value of one
-- cell, or the values of two neighbouring cells.
use Rattle.std.specs.Prelude.{◌≡◌, ◌<◌, ◌+◌, ◌*◌, ◌/◌, ◌%◌, ℕ, List, [], ◌∷◌, Bool, true, false, is_some, map, nat_lt, slice_index, slice_index_or, if◌then◌else◌}
use Rattle.std.specs.List.{Contains}
use Rattle.mcs_model.specs.declared.board.BoardParts.{BoardParts}
use Rattle.mcs_model.specs.declared.regs.Regs.{Regs}
use Rattle.mcs_model.specs.Boards.{chain_bits, rom_masks}
use Rattle.mcs_drive.specs.TrackedMachine.{Counts, TrackedMachine}
use Rattle.mcs_check.specs.declared.cells.Cell.{Cell}
use Rattle.mcs_check.specs.declared.cells.CellList.{CellList}
use Rattle.mcs_check.specs.declared.cells.StateByte.{StateByte}
use Rattle.mcs_check.specs.declared.cells.StateByte.TheVariants.{One, Pair}
use Rattle.mcs_check.specs.declared.cells.CellList.TheVariants.{RamNibbles, StatusCharacters, RamPorts, RomPorts, BankSrcBytes, Registers, Counters, Chain}

-- The counters of a machine, in this order: the registers other than the index registers, the SRC
-- byte that the ROMs store, and the counts. The counts are the number of open calls, the
-- stopwatch's cycles, and the number of marks seen. An address takes two bytes and the cycles take
-- three bytes, most significant byte first.
abbrev pub counters_of : Regs → ℕ → Counts → List ℕ
counters_of s src t =
    s.acc ∷ s.cy ∷ s.dcl ∷ s.owed ∷ s.pc / 256 ∷ s.pc % 256
    ∷ slice_index s.ret 0 / 256 ∷ slice_index s.ret 0 % 256
    ∷ slice_index s.ret 1 / 256 ∷ slice_index s.ret 1 % 256
    ∷ slice_index s.ret 2 / 256 ∷ slice_index s.ret 2 % 256 ∷ src ∷ t.calls
    ∷ t.elapsed / 65536 ∷ t.elapsed / 256 % 256 ∷ t.elapsed % 256 ∷ t.seen ∷ []

-- the values of all cells in a list
abbrev pub values_in_list : TrackedMachine → CellList → List ℕ
values_in_list t RamNibbles = t.1.ram
values_in_list t StatusCharacters = t.1.status
values_in_list t RamPorts = t.1.ram_ports
values_in_list t RomPorts = t.1.rom_ports
values_in_list t BankSrcBytes = t.1.ram_src
values_in_list t Registers = t.0.r
values_in_list t Counters = counters_of t.0 t.1.rom_src t.2
values_in_list t (Chain n) = slice_index_or t.1.chains n []

-- the maximum number of cells in a list
abbrev pub max_cell_count : CellList → ℕ
max_cell_count RamNibbles = 2048
max_cell_count StatusCharacters = 512
max_cell_count RamPorts = 32
max_cell_count RomPorts = 16
max_cell_count BankSrcBytes = 8
max_cell_count Registers = 16
max_cell_count Counters = 18
max_cell_count (Chain n) = 256

-- true if the board has the chip that contains cell i of a list. Every board has the processor.
abbrev pub board_has_cell : BoardParts → CellList → ℕ → Bool
board_has_cell b RamNibbles i = nat_lt (i % 256 / 64) (slice_index b.banks (i / 256))
board_has_cell b StatusCharacters i = nat_lt (i % 64 / 16) (slice_index b.banks (i / 64))
board_has_cell b RamPorts i = nat_lt (i % 4) (slice_index b.banks (i / 4))
board_has_cell b RomPorts i = is_some (rom_masks b i)
board_has_cell b BankSrcBytes i = nat_lt 0 (slice_index b.banks i)
board_has_cell b Registers i = true
board_has_cell b Counters i = true
board_has_cell b (Chain n) i = nat_lt i (chain_bits b n)

-- the value of a cell; its index is reduced modulo the maximum number of cells in the list
abbrev pub value_at : TrackedMachine → Cell → ℕ
value_at t c = slice_index (values_in_list t c.list) (c.index % max_cell_count c.list)

-- true if every cell of a list has a value below 16. One byte of the state vector then holds two of
-- these cells.
abbrev pub is_narrow : CellList → Bool
is_narrow BankSrcBytes = false
is_narrow Counters = false
is_narrow _ = true

-- the first cell of pair `h` in a list, with `h` reduced modulo 1024
abbrev pub first_cell_of : CellList → ℕ → Cell
first_cell_of list h = record { list = list; index = 2 * (h % 1024) }

-- the second cell of pair `h` in a list, with `h` reduced modulo 1024
abbrev pub second_cell_of : CellList → ℕ → Cell
second_cell_of list h = record { list = list; index = 2 * (h % 1024) + 1 }

-- the value of a byte of the state vector; the first cell of a pair is the upper nibble
abbrev pub state_byte_value : TrackedMachine → StateByte → ℕ
state_byte_value t (One c) = value_at t c
state_byte_value t (Pair list h) = value_at t (first_cell_of list h) % 16 * 16 + value_at t (second_cell_of list h) % 16

-- a machine's state vector: the values of the bytes in a layout
abbrev pub vector_of : List StateByte → TrackedMachine → List ℕ
vector_of layout t = map (state_byte_value t) layout

-- the byte of the state vector that holds cell i of a list
abbrev pub state_byte_of : CellList → ℕ → StateByte
state_byte_of list i = if is_narrow list then Pair list (i / 2) else One (record { list = list; index = i })

-- holds if `layout` contains every byte of the layout `others`
abbrev pub ContainsBytesOf : List StateByte → List StateByte → Type 0
ContainsBytesOf others layout = (c : StateByte) → Contains others c → Contains layout c

-- holds if a layout contains those cells of a list that exist on the board
abbrev pub ContainsCellsOf : BoardParts → List StateByte → CellList → Type 0
ContainsCellsOf b layout list =
    (i : ℕ) → i < max_cell_count list → board_has_cell b list i ≡ true → Contains layout (state_byte_of list i)

-- holds if a layout contains every cell that exists on the board
abbrev pub IsComplete : BoardParts → List StateByte → Type 0
IsComplete b layout = (list : CellList) → ContainsCellsOf b layout list
