-- The effect of an instruction on one choice of values. A stand-in processor gets the values that
-- the instruction uses, and arbitrary values in its other registers. It then executes the
-- instruction, as Effect of mcs_model defines it.
use Rattle.std.specs.Prelude.{◌≡◌, ◌<◌, ◌+◌, ◌-◌, ◌*◌, ◌%◌, ◌==◌, ℕ, List, length, true, replicate, Option, Some, nat_lt, slice_index, slice_set, if◌then◌else◌}
use Rattle.mcs_model.specs.declared.op.Op.{Op}
use Rattle.mcs_model.specs.declared.op.Op.TheVariants.{Jcn, Fim, Src, Fin, Jin, Jms, Inc, Isz, Add, Sub, Ld, Xch, Bbl, Sbm, Rdm, Rdr, Adm, Rd0, Rd1, Rd2, Rd3}
use Rattle.mcs_model.specs.declared.regs.Regs.{Regs}
use Rattle.mcs_model.specs.Bus.{BusState, ram_of, status_of}
use Rattle.mcs_model.specs.Effect.{after_fetch, registers_after, bus_after, with_acc, with_sum}
use Rattle.mcs_model.specs.Levels.{port_of}
use Rattle.mcs_model.specs.Registers.{register_of}
use Rattle.mcs_model.specs.Table.{instruction_of}
use Rattle.mcs_drive.specs.TrackedMachine.{TrackedMachine, calls_after, elapsed_after, seen_after, no_observer}
use Rattle.mcs_sets.specs.declared.entries.Entry.{Entry}
use Rattle.mcs_sets.specs.declared.landing.Choice.{Choice}
use Rattle.mcs_sets.specs.declared.landing.Landing.{Landing}
use Rattle.mcs_sets.specs.Entries.{contains, acc_values_of, value_at}

-- ---- the operand values of an instruction, besides accumulator, carry and bank: at most two

abbrev pub first_operand_of : Op → Regs → BusState → ℕ
first_operand_of (Src k) s m = register_of s (2 * k)
first_operand_of (Fin k) s m = register_of s 0
first_operand_of (Jin k) s m = register_of s (2 * k)
first_operand_of (Inc r) s m = register_of s r
first_operand_of (Isz r b) s m = register_of s r
first_operand_of (Add r) s m = register_of s r
first_operand_of (Sub r) s m = register_of s r
first_operand_of (Ld r) s m = register_of s r
first_operand_of (Xch r) s m = register_of s r
first_operand_of Sbm s m = ram_of m s.dcl
first_operand_of Rdm s m = ram_of m s.dcl
first_operand_of Rdr s m = port_of m
first_operand_of Adm s m = ram_of m s.dcl
first_operand_of Rd0 s m = status_of m s.dcl 0
first_operand_of Rd1 s m = status_of m s.dcl 1
first_operand_of Rd2 s m = status_of m s.dcl 2
first_operand_of Rd3 s m = status_of m s.dcl 3
first_operand_of _ s m = 0

abbrev pub second_operand_of : Op → Regs → BusState → ℕ
second_operand_of (Jcn c b) s m = m.test
second_operand_of (Fin k) s m = register_of s 1
second_operand_of (Jin k) s m = register_of s (2 * k + 1)
second_operand_of _ s m = 0

-- The values that the first operand may have, as a bit mask. A value from RAM or a port may be any
-- nibble. The set contains only 0 if there is no operand.
abbrev pub first_operand_set : Op → Entry → ℕ
first_operand_set (Src k) e = slice_index e.sets (2 * k)
first_operand_set (Fin k) e = slice_index e.sets 0
first_operand_set (Jin k) e = slice_index e.sets (2 * k)
first_operand_set (Inc r) e = slice_index e.sets r
first_operand_set (Isz r b) e = slice_index e.sets r
first_operand_set (Add r) e = slice_index e.sets r
first_operand_set (Sub r) e = slice_index e.sets r
first_operand_set (Ld r) e = slice_index e.sets r
first_operand_set (Xch r) e = slice_index e.sets r
first_operand_set Sbm e = 65535
first_operand_set Rdm e = 65535
first_operand_set Rdr e = 65535
first_operand_set Adm e = 65535
first_operand_set Rd0 e = 65535
first_operand_set Rd1 e = 65535
first_operand_set Rd2 e = 65535
first_operand_set Rd3 e = 65535
first_operand_set _ e = 1

-- The values that the second operand may have. For a JCN, these are the two levels of TEST. The set
-- contains only 0 if there is no second operand.
abbrev pub second_operand_set : Op → Entry → ℕ
second_operand_set (Jcn c b) e = 3
second_operand_set (Fin k) e = slice_index e.sets 1
second_operand_set (Jin k) e = slice_index e.sets (2 * k + 1)
second_operand_set _ e = 1

-- ---- the instruction with these operand values

-- the instruction at an address, given all ROM bytes
abbrev pub op_at : List ℕ → ℕ → Option Op
op_at rom at = instruction_of (slice_index rom at) (slice_index rom ((at + 1) % 4096))

-- index registers that give the instruction the operand values `first` and `second`
abbrev pub stand_in_registers : Op → ℕ → ℕ → List ℕ
stand_in_registers (Fin k) first second = slice_set (replicate 16 first) 1 second
stand_in_registers (Jin k) first second = slice_set (replicate 16 first) (2 * k + 1) second
stand_in_registers _ first second = replicate 16 first

abbrev pub stand_in_before : Op → ℕ → List ℕ → Choice → Regs
stand_in_before op at ret c = record { acc = c.acc; cy = c.cy; r = stand_in_registers op c.first_operand c.second_operand; pc = at; ret = ret; dcl = c.bank; owed = 0 }

-- The registers `t` after an instruction, corrected if the instruction reads the value `x` from RAM
-- or a port. `s` has the registers before the instruction.
abbrev pub with_value_read : Op → ℕ → Regs → Regs → Regs
with_value_read Sbm x s t = with_sum t (s.acc + (15 - x) + (1 - s.cy))
with_value_read Rdm x s t = with_acc t x
with_value_read Rdr x s t = with_acc t x
with_value_read Adm x s t = with_sum t (s.acc + x + s.cy)
with_value_read Rd0 x s t = with_acc t x
with_value_read Rd1 x s t = with_acc t x
with_value_read Rd2 x s t = with_acc t x
with_value_read Rd3 x s t = with_acc t x
with_value_read _ x s t = t

-- ---- the locations that an instruction changes, besides accumulator, carry, bank and addresses

abbrev pub first_location_written : Op → ℕ
first_location_written (Fim k b) = 2 * k
first_location_written (Src k) = 17
first_location_written (Fin k) = 2 * k
first_location_written (Inc r) = r
first_location_written (Isz r b) = r
first_location_written (Xch r) = r
first_location_written _ = 26

abbrev pub second_location_written : Op → ℕ → ℕ → ℕ
second_location_written (Fim k b) chips bank = 2 * k + 1
second_location_written (Src k) chips bank = if nat_lt 0 chips then 18 + bank else 26
second_location_written (Fin k) chips bank = 2 * k + 1
second_location_written _ chips bank = 26

abbrev pub value_written : Op → ℕ → Regs → ℕ → ℕ
value_written (Src k) first t location = first
value_written _ first t location = if nat_lt location 16 then slice_index t.r location else 0

-- ---- the landing

abbrev pub stand_in_after : Op → ℕ → List ℕ → BusState → Choice → Regs
stand_in_after op at ret m c =
    with_value_read op c.first_operand (stand_in_before op at ret c)
    (registers_after op (after_fetch op (stand_in_before op at ret c)) (record m { test = c.second_operand % 2 }))

abbrev pub landing : Op → ℕ → List ℕ → ℕ → BusState → Choice → Landing
landing op at ret calls m c =
    let t = stand_in_after op at ret m c in
    let second = second_location_written op (slice_index m.board.banks c.bank) c.bank in
    record {
      regs = t;
      calls = calls_after (Some op) calls;
      first_location = first_location_written op;
      first_value = value_written op c.first_operand t (first_location_written op);
      second_location = second;
      second_value = value_written op c.first_operand t second;
    }

-- ---- the machines that a landing describes

-- holds if the register and pair operands of an instruction are in range
abbrev pub IsValidOp : Op → Type 0
IsValidOp (Fim k b) = k < 8
IsValidOp (Src k) = k < 8
IsValidOp (Fin k) = k < 8
IsValidOp (Jin k) = k < 8
IsValidOp (Inc r) = r < 16
IsValidOp (Isz r b) = r < 16
IsValidOp (Add r) = r < 16
IsValidOp (Sub r) = r < 16
IsValidOp (Ld r) = r < 16
IsValidOp (Xch r) = r < 16
IsValidOp _ = Unit {0}

-- holds if the number of open calls allows an instruction: JMS needs fewer than three open calls,
-- and BBL at least one
abbrev pub CallsAllow : Op → ℕ → Type 0
CallsAllow (Jms h b) calls = calls < 3
CallsAllow (Bbl d) calls = 0 < calls
CallsAllow _ calls = Unit {0}

-- a machine after it has executed an instruction
abbrev pub machine_after : Op → TrackedMachine → TrackedMachine
machine_after op s = (
  registers_after op (after_fetch op s.0) s.1,
  bus_after op s.0 s.1,
  record {
    calls = calls_after (Some op) s.2.calls;
    elapsed = elapsed_after no_observer s;
    seen = seen_after no_observer s;
  },
)

-- the choice that consists of a machine's values
abbrev pub choice_of : Op → TrackedMachine → Choice
choice_of op s = record { acc = s.0.acc; cy = s.0.cy; bank = s.0.dcl; first_operand = first_operand_of op s.0 s.1; second_operand = second_operand_of op s.0 s.1 }

-- ---- the meaning of a landing

-- the value at location `k` after a landing, if the value was `v` before
abbrev pub value_after : Landing → ℕ → ℕ → ℕ
value_after o k v =
    if k == 16 then o.regs.dcl
    else if k == o.first_location then o.first_value
    else if k == o.second_location then o.second_value
    else v

-- holds if machine `t`, reached from machine `s`, has the values that the landing `o` gives
pub record LandingDescribes (s t : TrackedMachine) (o : Landing) : Type 0 where
  pub pc : t.0.pc ≡ o.regs.pc
  pub calls : t.2.calls ≡ o.calls
  pub ret : (k : ℕ) → k < 3 → k < o.calls → slice_index t.0.ret k ≡ slice_index o.regs.ret k
  pub acc : t.0.acc ≡ o.regs.acc
  pub cy : t.0.cy ≡ o.regs.cy
  pub locations : (k : ℕ) → k < 26 → value_at t k ≡ value_after o k (value_at s k)
  pub registers : length t.0.r ≡ 16
  pub banks : length t.1.ram_src ≡ 8

-- holds if the target entry covers every machine that a landing reaches from the source entry
pub record CoversLanding (source target : Entry) (o : Landing) : Type 0 where
  pub at : target.at ≡ o.regs.pc
  pub calls : target.calls ≡ o.calls
  pub ret : (k : ℕ) → k < 3 → k < target.calls → slice_index target.ret k ≡ slice_index o.regs.ret k
  pub carry : o.regs.cy < 2
  pub acc : contains (acc_values_of target o.regs.cy) o.regs.acc ≡ true
  pub locations : (k : ℕ) → k < 26 → (v : ℕ) → contains (slice_index source.sets k) v ≡ true → contains (slice_index target.sets k) (value_after o k v) ≡ true

-- ---- the laws

-- holds if the premises of `LandingIsCorrect` are met: the bus `m` and the return addresses `rets`
-- of the stand-in processor agree with the machine `s`
pub record StandInFits (op : Op) (s : TrackedMachine) (m : BusState) (rets : List ℕ) : Type 0 where
  pub valid : IsValidOp op
  pub calls : CallsAllow op s.2.calls
  pub registers : length s.0.r ≡ 16
  pub banks : length s.1.ram_src ≡ 8
  pub bank : s.0.dcl < 8
  pub rom : m.rom ≡ s.1.rom
  pub board : m.board ≡ s.1.board
  pub test : s.1.test < 2
  pub ret : (k : ℕ) → k < 3 → k < s.2.calls → slice_index s.0.ret k ≡ slice_index rets k
  pub nibbles : (k : ℕ) → k < 16 → slice_index s.0.r k < 16

-- the law of one step: the landing of a machine's own choice describes the machine after the
-- instruction
abbrev pub LandingIsCorrect : Type 0
LandingIsCorrect =
    (op : Op) (s : TrackedMachine) (m : BusState) (rets : List ℕ) → StandInFits op s m rets →
    LandingDescribes s (machine_after op s) (landing op s.0.pc rets s.2.calls m (choice_of op s))
