-- The memory of a machine: its RAM nibbles and status characters. They come last in a state vector,
-- and few cycles change them. A search therefore copies their bytes from one state vector to the
-- next.
use Rattle.std.specs.Prelude.{◌≡◌, ◌<◌, ◌≤◌, ℕ, List, Bool, true, false, Option, Some, None, length, slice_index, slice_index_or}
use Rattle.mcs_model.specs.declared.op.Op.{Op}
use Rattle.mcs_model.specs.declared.op.Op.TheVariants.{Wrm, Wr0, Wr1, Wr2, Wr3}
use Rattle.mcs_model.specs.Bus.{BusState}
use Rattle.mcs_drive.specs.TrackedMachine.{TrackedMachine}
use Rattle.mcs_check.specs.declared.cells.CellList.{CellList}
use Rattle.mcs_check.specs.declared.cells.CellList.TheVariants.{RamNibbles, StatusCharacters}
use Rattle.mcs_check.specs.declared.cells.StateByte.{StateByte}
use Rattle.mcs_check.specs.declared.cells.StateByte.TheVariants.{One, Pair}
use Rattle.mcs_check.specs.declared.last_vector.LastVector.{LastVector}
use Rattle.mcs_check.specs.declared.reading.InputSource.{InputSource}
use Rattle.mcs_check.specs.declared.reading.InputSource.TheVariants.{NoInput}
use Rattle.mcs_check.specs.Cells.{state_byte_value, vector_of}

-- true if a list contains cells of the memory
abbrev pub is_memory_list : CellList → Bool
is_memory_list RamNibbles = true
is_memory_list StatusCharacters = true
is_memory_list _ = false

-- true if a byte of the state vector holds cells of the memory
abbrev pub is_memory_byte : StateByte → Bool
is_memory_byte (One c) = is_memory_list c.list
is_memory_byte (Pair list h) = is_memory_list list

-- true if an instruction writes a RAM nibble or a status character
abbrev pub op_writes_memory : Op → Bool
op_writes_memory Wrm = true
op_writes_memory Wr0 = true
op_writes_memory Wr1 = true
op_writes_memory Wr2 = true
op_writes_memory Wr3 = true
op_writes_memory _ = false

-- true if a cycle that begins this instruction writes a RAM nibble or a status character. A cycle
-- that begins no instruction (None) writes neither.
abbrev pub cycle_writes_memory : Option Op → Bool
cycle_writes_memory (Some op) = op_writes_memory op
cycle_writes_memory None = false

-- true if an instruction with this source reads an input
abbrev pub is_input : InputSource → Bool
is_input NoInput = false
is_input _ = true

-- holds if two buses have the same RAM nibbles and status characters
pub record KeepsMemory (s t : BusState) : Type 0 where
  pub ram : t.ram ≡ s.ram
  pub status : t.status ≡ s.status

-- holds if all bytes of a layout from byte `front` on hold cells of the memory
pub record IsMemoryFrom (layout : List StateByte) (front : ℕ) : Type 0 where
  pub fits : front ≤ length layout
  pub memory : (k : ℕ) (d : StateByte) → front ≤ k → k < length layout → is_memory_byte (slice_index_or layout k d) ≡ true

-- holds if the first `count` bytes of `vector` are those of the machine's state vector
abbrev pub HasFirstBytes : TrackedMachine → List StateByte → List ℕ → ℕ → Type 0
HasFirstBytes t layout vector count =
    (k : ℕ) (d : StateByte) → k < count → slice_index vector k ≡ state_byte_value t (slice_index_or layout k d)

-- holds if the bytes of `vector` from byte `front` on are those of the machine's state vector
abbrev pub HasBytesFrom : TrackedMachine → List StateByte → List ℕ → ℕ → Type 0
HasBytesFrom t layout vector front =
    (k : ℕ) (d : StateByte) → front ≤ k → k < length layout → slice_index vector k ≡ state_byte_value t (slice_index_or layout k d)

-- holds if the memory's bytes come last in a layout, from byte `last.front` on, and `last`, if it
-- is current, is the machine's state vector
pub record IsLastVectorOf (layout : List StateByte) (last : LastVector) (t : TrackedMachine) : Type 0 where
  pub split : IsMemoryFrom layout last.front
  pub vector : last.is_current ≡ true → last.bytes.items ≡ vector_of layout t
