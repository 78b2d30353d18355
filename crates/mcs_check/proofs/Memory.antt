-- The memory of a machine, and the bytes of a state vector that hold it.
use Rattle.std.proofs.Common.{◌≡◌, ◌<◌, ◌≤◌, ◌+◌, ◌*◌, ◌/◌, ◌%◌, ℕ, inl, inr, List, Bool, true, false, cond, length, get_or, Option, Some, None, unwrap_or, nat_lt, slice_index, refl, sym, ◌∙◌, ap, eqb, arith}
use Rattle.std.proofs.lemmas.Bool.{cases_lt}
use Rattle.std.proofs.lemmas.List.{ext_get_or, get_or-map, length-map}
use Rattle.mcs_nibble.specs.declared.lines.LineMask.{LineMask}
use Rattle.mcs_nibble.specs.Ports.{latch_value}
use Rattle.mcs_model.specs.declared.regs.Regs.{Regs}
use Rattle.mcs_model.specs.declared.op.Op.{Op}
use Rattle.mcs_model.specs.declared.op.Op.TheVariants.{Rdr, Src, Wrm, Wmp, Wrr, Wr0, Wr1, Wr2, Wr3}
use Rattle.mcs_model.specs.Boards.{rom_masks}
use Rattle.mcs_model.specs.Bus.{BusState, after_src, fetch_of, chips_of, src_of, has_chip}
use Rattle.mcs_model.specs.ChipWrites.{with_ram_latch, with_rom_latch, with_ram_src}
use Rattle.mcs_model.specs.Levels.{clock_levels, after_chain_clocks, with_rom_ports_at, after_ram_port, after_rom_port}
use Rattle.mcs_model.specs.Effect.{bus_after, cycle_of, effect, instruction_at}
use Rattle.mcs_model.specs.Running.{Machine}
use Rattle.mcs_drive.specs.TrackedMachine.{Observer, TrackedMachine, machine_in, cycled, next_op}
use Rattle.mcs_check.specs.declared.cells.Cell.{Cell}
use Rattle.mcs_check.specs.declared.cells.CellList.{CellList}
use Rattle.mcs_check.specs.declared.cells.CellList.TheVariants.{RamNibbles, StatusCharacters, RamPorts, RomPorts, BankSrcBytes, Registers, Counters, Chain}
use Rattle.mcs_check.specs.declared.cells.StateByte.{StateByte}
use Rattle.mcs_check.specs.declared.cells.StateByte.TheVariants.{One, Pair}
use Rattle.mcs_check.specs.declared.reading.InputSource.{InputSource}
use Rattle.mcs_check.specs.declared.reading.InputSource.TheVariants.{NoInput, Port, Test}
use Rattle.mcs_check.specs.Cells.{first_cell_of, state_byte_value, vector_of, max_cell_count, second_cell_of, value_at, values_in_list}
use Rattle.mcs_check.specs.ReadPoints.{Begins, OpReads, Reads, ReadsTestPin}
use Rattle.mcs_check.specs.Memory.{HasBytesFrom, HasFirstBytes, IsMemoryFrom, KeepsMemory, cycle_writes_memory, is_input, is_memory_byte, is_memory_list, op_writes_memory}

pub memory-refl : (s : BusState) → KeepsMemory s s
memory-refl s = record { ram = refl; status = refl }

pub memory-trans : (s t u : BusState) → KeepsMemory s t → KeepsMemory t u → KeepsMemory s u
memory-trans s t u h k = record { ram = k.ram ∙ h.ram; status = k.status ∙ h.status }

-- if `KeepsMemory` holds for r and u, it also holds for buses s and t that equal r and u
pub memory-same : (r s t u : BusState) → r ≡ s → t ≡ u → KeepsMemory r u → KeepsMemory s t
memory-same r s t u e f h = record { ram = ap (λ (b : BusState). b.ram) f ∙ h.ram ∙ ap (λ (b : BusState). b.ram) e; status = ap (λ (b : BusState). b.status) f ∙ h.status ∙ ap (λ (b : BusState). b.status) e }

cond-memory : (b : Bool) (s m n : BusState) → KeepsMemory s m → KeepsMemory s n → KeepsMemory s (cond b m n)
cond-memory true s m n h k = h
cond-memory false s m n h k = k

-- ---- setting a cell

pub with_ram_latch-memory : (s : BusState) (bank chip n : ℕ) → KeepsMemory s (with_ram_latch s bank chip n)
unfolding with_ram_latch
with_ram_latch-memory s bank chip n = cond-memory (nat_lt chip (chips_of s bank)) s _ s (record { ram = refl; status = refl }) (memory-refl s)

pub with_ram_src-memory : (s : BusState) (bank n : ℕ) → KeepsMemory s (with_ram_src s bank n)
unfolding with_ram_src
with_ram_src-memory s bank n = cond-memory (nat_lt 0 (chips_of s bank)) s _ s (record { ram = refl; status = refl }) (memory-refl s)

rom_latch-memory_by_cases : (s : BusState) (chip n : ℕ) (o : Option (List LineMask)) → KeepsMemory s (elim o as (λ _. BusState) [ Some mask ↦ with_rom_ports_at s chip (latch_value mask n) | None ↦ s ])
rom_latch-memory_by_cases s chip n (Some mask) = record { ram = refl; status = refl }
rom_latch-memory_by_cases s chip n None = memory-refl s

pub with_rom_latch-memory : (s : BusState) (chip n : ℕ) → KeepsMemory s (with_rom_latch s chip n)
unfolding with_rom_latch
with_rom_latch-memory s chip n = rom_latch-memory_by_cases s chip n (rom_masks s.board chip)

-- ---- a cycle

chain_clocks-memory : (before : List ℕ) (s t : BusState) → KeepsMemory s t → KeepsMemory s (after_chain_clocks before t)
unfolding after_chain_clocks
chain_clocks-memory before s t h = record { ram = h.ram; status = h.status }

rom_port-memory_by_cases : (m : BusState) (n : ℕ) (o : Option (List LineMask)) → KeepsMemory m (elim o as (λ _. BusState) [ Some mask ↦ after_chain_clocks (clock_levels m) (with_rom_ports_at m (m.rom_src / 16) (latch_value mask n)) | None ↦ m ])
rom_port-memory_by_cases m n (Some mask) = chain_clocks-memory (clock_levels m) m _ (record { ram = refl; status = refl })
rom_port-memory_by_cases m n None = memory-refl m

after_src-memory : (m : BusState) (bank byte : ℕ) → KeepsMemory m (after_src m bank byte)
unfolding after_src
after_src-memory m bank byte = cond-memory (nat_lt 0 (chips_of m bank)) m _ _ (record { ram = refl; status = refl }) (record { ram = refl; status = refl })

after_ram_port-memory : (m : BusState) (bank n : ℕ) → KeepsMemory m (after_ram_port m bank n)
unfolding after_ram_port
after_ram_port-memory m bank n = cond-memory (has_chip m bank (src_of m bank)) m _ m (chain_clocks-memory (clock_levels m) m _ (record { ram = refl; status = refl })) (memory-refl m)

bus_after-memory : (op : Op) (s : Regs) (m : BusState) → op_writes_memory op ≡ false → KeepsMemory m (bus_after op s m)
unfolding after_rom_port
bus_after-memory (Src k) s m quiet = after_src-memory m s.dcl _
bus_after-memory Wrm s m quiet = absurd (cc)
bus_after-memory Wmp s m quiet = after_ram_port-memory m s.dcl s.acc
bus_after-memory Wrr s m quiet = rom_port-memory_by_cases m s.acc (rom_masks m.board (m.rom_src / 16))
bus_after-memory Wr0 s m quiet = absurd (cc)
bus_after-memory Wr1 s m quiet = absurd (cc)
bus_after-memory Wr2 s m quiet = absurd (cc)
bus_after-memory Wr3 s m quiet = absurd (cc)
bus_after-memory _ s m quiet = memory-refl m

cycle-memory_by_cases : (s : Machine) (b : Bool) (o : Option Op) → cycle_writes_memory (cond b None o) ≡ false → KeepsMemory s.1 (unwrap_or (cond b (Some (record s.0 { owed = 0 }, s.1)) (elim o as (λ _. Option (Regs × BusState)) [ Some op ↦ Some (effect op s.0 s.1) | None ↦ None ])) s).1
cycle-memory_by_cases s true o quiet = memory-refl s.1
cycle-memory_by_cases s false None quiet = memory-refl s.1
cycle-memory_by_cases s false (Some op) quiet = bus_after-memory op s.0 s.1 quiet

-- a cycle that writes no RAM nibble and no status character keeps the memory
pub cycle-memory : (w : Observer) (s : TrackedMachine) → cycle_writes_memory (next_op s.0 s.1) ≡ false → KeepsMemory s.1 (cycled w s).1
unfolding cycle_of
cycle-memory w s quiet = cycle-memory_by_cases (machine_in s) (eqb s.0.owed 1) (instruction_at s.0 s.1) quiet

-- an instruction that reads an input writes no RAM nibble and no status character
op_writes_no_memory-if_it_reads : (op : Op) → (source : InputSource) → OpReads op source → is_input source ≡ true → op_writes_memory op ≡ false
op_writes_no_memory-if_it_reads op NoInput reads is = absurd (cc)
op_writes_no_memory-if_it_reads op Port reads is = ap op_writes_memory reads
op_writes_no_memory-if_it_reads op Test reads is = ap op_writes_memory reads.is

next_op-if_begins : (fact : Op → Type 0) (s : TrackedMachine) (begins : Begins fact s) → next_op s.0 s.1 ≡ Some begins.op
next_op-if_begins fact s begins = ap (λ b. cond b None (instruction_at s.0 s.1)) begins.free ∙ begins.next

-- the next instruction does not depend on the level of TEST
pub next_op-at_any_level : (s : TrackedMachine) (value : ℕ) → next_op s.0 (record s.1 { test = value }) ≡ next_op s.0 s.1
unfolding fetch_of
next_op-at_any_level s value = refl

-- a cycle that reads an input writes no RAM nibble and no status character
pub reading-writes_no_memory : (s : TrackedMachine) (source : InputSource) → Reads s source → is_input source ≡ true → cycle_writes_memory (next_op s.0 s.1) ≡ false
reading-writes_no_memory s NoInput reads is = absurd (cc)
reading-writes_no_memory s Port reads is = ap cycle_writes_memory (next_op-if_begins (λ op. op ≡ Rdr) s reads) ∙ op_writes_no_memory-if_it_reads reads.op Port reads.is refl
reading-writes_no_memory s Test reads is = ap cycle_writes_memory (next_op-if_begins ReadsTestPin s reads) ∙ op_writes_no_memory-if_it_reads reads.op Test reads.is refl

-- ---- the bytes of a state vector

-- the values of a list of the memory are equal in machines with the same memory
values-equal : (s t : TrackedMachine) (list : CellList) → is_memory_list list ≡ true → KeepsMemory s.1 t.1 → values_in_list t list ≡ values_in_list s list
values-equal s t RamNibbles is h = h.ram
values-equal s t StatusCharacters is h = h.status
values-equal s t RamPorts is h = absurd (cc)
values-equal s t RomPorts is h = absurd (cc)
values-equal s t BankSrcBytes is h = absurd (cc)
values-equal s t Registers is h = absurd (cc)
values-equal s t Counters is h = absurd (cc)
values-equal s t (Chain n) is h = absurd (cc)

value-equal : (s t : TrackedMachine) (c : Cell) → is_memory_list c.list ≡ true → KeepsMemory s.1 t.1 → value_at t c ≡ value_at s c
value-equal s t c is h = ap (λ (xs : List ℕ). slice_index xs (c.index % max_cell_count c.list)) (values-equal s t c.list is h)

byte-equal : (s t : TrackedMachine) (b : StateByte) → is_memory_byte b ≡ true → KeepsMemory s.1 t.1 → state_byte_value t b ≡ state_byte_value s b
byte-equal s t (One c) is h = value-equal s t c is h
byte-equal s t (Pair list p) is h =
    ap (λ (n : ℕ). n % 16 * 16 + value_at t (second_cell_of list p) % 16) (value-equal s t (first_cell_of list p) is h)
    ∙ ap (λ (n : ℕ). value_at s (first_cell_of list p) % 16 * 16 + n % 16) (value-equal s t (second_cell_of list p) is h)

-- each byte of a machine's state vector has the value of the layout's byte at the same index
vector-has_bytes : (t : TrackedMachine) (layout : List StateByte) (vector : List ℕ) → vector ≡ vector_of layout t → (k : ℕ) (d : StateByte) → k < length layout → slice_index vector k ≡ state_byte_value t (get_or layout k d)
vector-has_bytes t layout vector e k d l = ap (λ (xs : List ℕ). slice_index xs k) e ∙ get_or-map (state_byte_value t) layout k d 0 l

-- Suppose that `vector` and the state vector of s have equal bytes for the memory, and that s and t
-- have the same memory. Then `vector` and the state vector of t have equal bytes for the memory.
pub has_bytes_from-if_memory_kept : (s t : TrackedMachine) (layout : List StateByte) (last vector : List ℕ) (front : ℕ) → IsMemoryFrom layout front → last ≡ vector_of layout s → KeepsMemory s.1 t.1 →
    ((k : ℕ) (d : StateByte) → k < length layout → is_memory_byte (get_or layout k d) ≡ true → slice_index last k ≡ slice_index vector k) → HasBytesFrom t layout vector front
has_bytes_from-if_memory_kept s t layout last vector front split e h same = λ k d from l.
    let is = split.memory k d from l in
    sym (same k d l is) ∙ vector-has_bytes s layout last e k d l ∙ sym (byte-equal s t (get_or layout k d) is h)

-- a list of bytes is the machine's state vector if its first and its last bytes are those of the
-- machine's state vector
pub vector_of_machine-if_all_bytes : (t : TrackedMachine) (layout : List StateByte) (vector : List ℕ) (front : ℕ) → length vector ≡ length layout → HasFirstBytes t layout vector front → HasBytesFrom t layout vector front → vector ≡ vector_of layout t
vector_of_machine-if_all_bytes t layout vector front len first rest =
    let d : StateByte = One (record { list = Counters; index = 0 }) in
    ext_get_or 0 vector (vector_of layout t) (len ∙ sym (length-map layout (state_byte_value t)))
    (λ k l. elim (cases_lt k front) [
      | inl below ↦ first k d below
      | inr from ↦ rest k d from (omega arith)
    ] ∙ sym (get_or-map (state_byte_value t) layout k d 0 (omega arith)))

-- if the first `count` bytes of `vector` are those of the machine's state vector, and `count` is
-- the length of the layout or more, `vector` is the machine's state vector
pub vector_of_machine-if_first_bytes : (t : TrackedMachine) (layout : List StateByte) (vector : List ℕ) (count : ℕ) → length vector ≡ length layout → length layout ≤ count → HasFirstBytes t layout vector count → vector ≡ vector_of layout t
vector_of_machine-if_first_bytes t layout vector count len all first = vector_of_machine-if_all_bytes t layout vector count len first (λ k d from l. absurd (omega arith))
