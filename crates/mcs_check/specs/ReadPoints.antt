-- The inputs that a machine reads, and its run from one read to the next.
use Rattle.std.specs.Prelude.{◌≡◌, ◌<◌, ◌≤◌, ◌+◌, ◌-◌, ◌*◌, ◌/◌, ◌%◌, ◌==◌, ◌&&◌, ℕ, [], Bool, true, false, Some, None, length, nat_le}
use Rattle.mcs_nibble.specs.Bits.{bit_of}
use Rattle.mcs_nibble.specs.Ports.{read_lines}
use Rattle.mcs_model.specs.declared.op.Op.{Op}
use Rattle.mcs_model.specs.declared.op.Op.TheVariants.{Isz, Jcn, Rdr}
use Rattle.mcs_model.specs.Boards.{rom_masks}
use Rattle.mcs_model.specs.Bus.{BusState}
use Rattle.mcs_model.specs.Effect.{address_on_page_of, instruction_at}
use Rattle.mcs_model.specs.Registers.{register_of, with_register}
use Rattle.mcs_drive.specs.DrivenRuns.{AreAllowed, FitsBoard, InputLimits, Levels}
use Rattle.mcs_drive.specs.InputReads.{reads_input}
use Rattle.mcs_drive.specs.TrackedMachine.{Observer, TrackedMachine, with_levels, without_levels, begins_at, cycled, after_cycles, next_reads_input, value_read}
use Rattle.mcs_check.specs.declared.reading.InputSource.{InputSource}
use Rattle.mcs_check.specs.declared.reading.InputSource.TheVariants.{NoInput, Port, Test}

-- holds if an instruction is a JCN whose condition tests the TEST pin
pub record ReadsTestPin (op : Op) : Type 0 where
  pub condition : ℕ
  pub word : ℕ
  pub is : op ≡ Jcn condition word
  pub odd : (condition % 2 == 1) ≡ true

-- holds if an instruction reads its input from the given source
abbrev pub OpReads : Op → InputSource → Type 0
OpReads op NoInput = reads_input (Some op) ≡ false
OpReads op Port = op ≡ Rdr
OpReads op Test = ReadsTestPin op

-- holds if the next cycle begins an instruction for which a given fact holds
pub record Begins (fact : Op → Type 0) (s : TrackedMachine) : Type 0 where
  pub free : (s.0.owed == 1) ≡ false
  pub op : Op
  pub next : instruction_at s.0 s.1 ≡ Some op
  pub is : fact op

-- holds if the next cycle reads its input from the given source
abbrev pub Reads : TrackedMachine → InputSource → Type 0
Reads s NoInput = next_reads_input s ≡ false
Reads s Port = Begins (λ op. op ≡ Rdr) s
Reads s Test = Begins ReadsTestPin s

-- holds if no input levels within the limits make the next instruction read this value
abbrev pub CannotRead : InputLimits → ℕ → TrackedMachine → Type 0
CannotRead limits value s = (l : Levels) → AreAllowed limits s.1.board l → value_read l s ≡ value → ⊥

-- the number of bits of nibble `n` that are 1
abbrev pub set_bits : ℕ → ℕ
set_bits n = bit_of n 0 + bit_of n 1 + bit_of n 2 + bit_of n 3

-- true if every bit that is set in nibble `n` is also set in nibble `most`
abbrev pub is_bit_subset : ℕ → ℕ → Bool
is_bit_subset n most =
    nat_le (bit_of n 0) (bit_of most 0) && nat_le (bit_of n 1) (bit_of most 1)
    && nat_le (bit_of n 2) (bit_of most 2) && nat_le (bit_of n 3) (bit_of most 3)

-- the value that the selected ROM's port reads while no key is pressed; 0 if the ROM is absent
abbrev pub unpressed_port_value : BusState → ℕ
unpressed_port_value m =
    elim (rom_masks m.board (m.rom_src / 16)) [ Some mask ↦ read_lines (λ k. 0) mask | None ↦ 0 ]

-- holds if one cycle takes s to t at all input levels at which s reads this value. The input levels
-- of t are ignored.
abbrev pub HasRead : Observer → ℕ → TrackedMachine → TrackedMachine → Type 0
HasRead w value s t =
    (l : Levels) → FitsBoard s.1.board l → value_read l s ≡ value → without_levels (cycled w (with_levels l s)) ≡ without_levels t

-- holds if a run of `cycles` cycles leads from s to t, no cycle of the run reads an input, and
-- property p holds before and after each cycle
pub record Reaches (w : Observer) (p : TrackedMachine → Bool) (cycles : ℕ) (s t : TrackedMachine) : Type 0 where
  pub quiet : (i : ℕ) → i < cycles → next_reads_input (after_cycles w i s) ≡ false
  pub property_holds : (i : ℕ) → i ≤ cycles → p (after_cycles w i s) ≡ true
  pub at : t ≡ after_cycles w cycles s

-- Holds if the stopwatch of an observer is at 0 and does not begin, the observer's condition never
-- holds, and the observer has no marks and has seen none. The next cycle then changes neither the
-- stopwatch nor the count of marks.
pub record IsObserverIdle (w : Observer) (s : TrackedMachine) : Type 0 where
  pub stopwatch_at_zero : s.2.elapsed ≡ 0
  pub not_begun : begins_at w s ≡ false
  pub unseen : s.2.seen ≡ 0
  pub closed : (t : TrackedMachine) → w.opens t ≡ false
  pub unmarked : w.marks ≡ []

-- the machine with n as its number of marks seen
abbrev pub with_seen : ℕ → TrackedMachine → TrackedMachine
with_seen n s = (s.0, s.1, record s.2 { seen = n })

-- holds if the next cycle begins an ISZ of register r that jumps to itself, the ISZ will jump, and
-- the observer is idle (`IsObserverIdle`)
pub record Spins (w : Observer) (r : ℕ) (s : TrackedMachine) : Type 0 where
  pub still : IsObserverIdle w s
  pub free : s.0.owed ≡ 0
  pub word : ℕ
  pub next : instruction_at s.0 s.1 ≡ Some (Isz r word)
  pub back : address_on_page_of ((s.0.pc + 2) % 4096) word ≡ s.0.pc
  pub few : register_of s.0 r < 15

-- holds if t is the machine s after all passes but the last of an ISZ that jumps to itself. A pass
-- takes two cycles, and all these passes take `cycles` cycles.
pub record HasSpun (w : Observer) (cycles : ℕ) (s t : TrackedMachine) : Type 0 where
  pub register : ℕ
  pub within : register < length s.0.r
  pub spins : Spins w register s
  pub count : cycles ≡ 2 * (15 - register_of s.0 register)
  pub at : t ≡ (with_register s.0 register 15, s.1, s.2)
