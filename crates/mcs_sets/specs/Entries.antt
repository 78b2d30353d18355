-- The meaning of a certificate. An entry covers a machine at the entry's address with the entry's
-- open calls, if the machine's value at each location is in the entry's set for this location.
-- (Defined by Fethsaim, not by Intel.)
use Rattle.std.specs.Prelude.{◌≡◌, ◌<◌, ◌-◌, ◌/◌, ◌%◌, ◌^◌, ◌&&◌, ◌==◌, ℕ, List, length, Bool, true, nat_lt, slice_index, if◌then◌else◌}
use Rattle.std.specs.List.{Contains}
use Rattle.mcs_model.specs.declared.regs.Regs.{Regs}
use Rattle.mcs_drive.specs.TrackedMachine.{TrackedMachine}
use Rattle.mcs_sets.specs.declared.entries.Entry.{Entry}

-- true if a set of nibbles contains the number `n`: bit `n` of the set is 1
abbrev pub contains : ℕ → ℕ → Bool
contains set n = nat_lt n 16 && (set / 2 ^ n % 2 == 1)

-- holds if `subset` is a subset of `superset`
abbrev pub IsSubset : ℕ → ℕ → Type 0
IsSubset subset superset = (n : ℕ) → contains subset n ≡ true → contains superset n ≡ true

-- the set of values that the accumulator may hold with this carry
abbrev pub acc_values_of : Entry → ℕ → ℕ
acc_values_of e carry = if carry == 0 then e.acc_if_carry_0 else if carry == 1 then e.acc_if_carry_1 else 0

-- The value that a machine holds at location `k`. Locations 0 to 15 are the index registers, 16 is
-- the bank number, and 17 is the upper nibble of the SRC byte that the ROMs store. Locations 18 to
-- 25 are the upper nibbles of the SRC bytes that banks 0 to 7 store.
abbrev pub value_at : TrackedMachine → ℕ → ℕ
value_at s k =
    if k == 16 then s.0.dcl
    else if nat_lt k 16 then slice_index s.0.r k
    else if k == 17 then s.1.rom_src / 16
    else slice_index s.1.ram_src (k - 18) / 16

-- holds if an entry covers a machine: it has the machine's address and open calls, and allows the
-- machine's values
pub record Covers (e : Entry) (s : TrackedMachine) : Type 0 where
  pub at : s.0.pc ≡ e.at
  pub calls : s.2.calls ≡ e.calls
  pub ret : (k : ℕ) → k < 3 → k < e.calls → slice_index s.0.ret k ≡ slice_index e.ret k
  pub acc : contains (acc_values_of e s.0.cy) s.0.acc ≡ true
  pub locations : (k : ℕ) → k < 26 → contains (slice_index e.sets k) (value_at s k) ≡ true
  pub carry : s.0.cy < 2
  pub registers : length s.0.r ≡ 16
  pub banks : length s.1.ram_src ≡ 8

-- holds if some entry of a certificate covers a machine
abbrev pub IsCovered : List Entry → TrackedMachine → Type 0
IsCovered entries s = (e : Entry) × Contains entries e × Covers e s

-- holds if a processor is at the address of an entry, and the entry has no open calls
pub record IsAtEntry (e : Entry) (s : Regs) : Type 0 where
  pub at : s.pc ≡ e.at
  pub calls : e.calls ≡ 0
