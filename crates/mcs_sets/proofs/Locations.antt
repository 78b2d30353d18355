-- The value at each location after an instruction.
use Rattle.std.proofs.Common.{◌≡◌, ◌≢◌, ◌<◌, ◌+◌, ◌*◌, ℕ, List, length, true, false, cond, inl, inr, slice_index, slice_set, nat_lt, sym, ap, ◌∙◌, arith, eqb}
use Rattle.std.proofs.lemmas.Bool.{cases_eq, cases_lt, eq-eqb, ne_eqb, lt-ltb, le-ltb}
use Rattle.std.proofs.lemmas.List.{get_or-set_same, get_or-set_other, length-set}
use Rattle.mcs_drive.specs.TrackedMachine.{TrackedMachine}
use Rattle.mcs_sets.specs.declared.landing.Landing.{Landing}
use Rattle.mcs_sets.specs.Entries.{value_at}
use Rattle.mcs_sets.specs.Landing.{value_after, LandingDescribes}

-- the value at location `k` after a landing, if the value was `v` before; `k` is not 16, the
-- location of the bank number
abbrev pub value_after_landing : Landing → ℕ → ℕ → ℕ
value_after_landing o k v = cond (eqb k o.first_location) o.first_value (cond (eqb k o.second_location) o.second_value v)

pub locations-agree-from-registers : (s t : TrackedMachine) (o : Landing) → t.0.dcl ≡ o.regs.dcl → t.1.rom_src ≡ s.1.rom_src → t.1.ram_src ≡ s.1.ram_src →
    ((k : ℕ) → k < 16 → slice_index t.0.r k ≡ value_after_landing o k (slice_index s.0.r k)) →
    ((k : ℕ) → 16 < k → k < 26 → (k ≢ o.first_location) × (k ≢ o.second_location)) →
    (k : ℕ) → k < 26 → value_at t k ≡ value_after o k (value_at s k)
locations-agree-from-registers s t o bank src srcs regs beyond k h =
    elim (cases_eq k 16) [
      | inl e ↦ let is_16 : eqb k 16 ≡ true = eq-eqb k 16 e in rw is_16 bank
      | inr ne ↦
          let is_16 : eqb k 16 ≡ false = ne_eqb k 16 ne in
          elim (cases_lt k 16) [
            | inl low ↦ let lt : nat_lt k 16 ≡ true = lt-ltb k 16 low in rw (is_16, lt) (regs k low)
            | inr high ↦
                let lt : nat_lt k 16 ≡ false = le-ltb k 16 high in
                let above_16 : 16 < k = omega arith in
                let f : eqb k o.first_location ≡ false = ne_eqb k o.first_location (beyond k above_16 h).0 in
                let g : eqb k o.second_location ≡ false = ne_eqb k o.second_location (beyond k above_16 h).1 in
                rw (is_16, lt, f, g, src, srcs)
          ]
    ]

-- after an instruction that changes no location, each location has the value that the landing gives
locations-agree-if-none-changes : (s t : TrackedMachine) (o : Landing) → t.0.dcl ≡ o.regs.dcl → t.1.rom_src ≡ s.1.rom_src → t.1.ram_src ≡ s.1.ram_src → t.0.r ≡ s.0.r → o.first_location ≡ 26 → o.second_location ≡ 26 →
    (k : ℕ) → k < 26 → value_at t k ≡ value_after o k (value_at s k)
locations-agree-if-none-changes s t o bank src srcs r first second =
    locations-agree-from-registers s t o bank src srcs
    (λ k low.
    let f : eqb k o.first_location ≡ false = ne_eqb k o.first_location (λ e. omega arith) in
    let g : eqb k o.second_location ≡ false = ne_eqb k o.second_location (λ e. omega arith) in
    rw (f, g) (ap (λ (l : List ℕ). slice_index l k) r))
    (λ k up below. (λ e. omega arith, λ e. omega arith))

-- after an instruction that changes one register, each location has the value that the landing
-- gives
locations-agree-if-one-register-changes : (s t : TrackedMachine) (o : Landing) (i : ℕ) → i < 16 → length s.0.r ≡ 16 → t.0.dcl ≡ o.regs.dcl → t.1.rom_src ≡ s.1.rom_src → t.1.ram_src ≡ s.1.ram_src → t.0.r ≡ slice_set s.0.r i o.first_value → o.first_location ≡ i → o.second_location ≡ 26 →
    (k : ℕ) → k < 26 → value_at t k ≡ value_after o k (value_at s k)
locations-agree-if-one-register-changes s t o i small len bank src srcs r first second =
    locations-agree-from-registers s t o bank src srcs
    (λ k low.
    let g : eqb k o.second_location ≡ false = ne_eqb k o.second_location (λ e. omega arith) in
    let register_after : slice_index t.0.r k ≡ slice_index (slice_set s.0.r i o.first_value) k = ap (λ (l : List ℕ). slice_index l k) r in
    elim (cases_eq k i) [
      | inl e ↦
          let f : eqb k o.first_location ≡ true = eq-eqb k o.first_location (e ∙ sym first) in
          let i_in_list : i < length s.0.r = omega arith in
          rw f (register_after ∙ ap (slice_index (slice_set s.0.r i o.first_value)) e ∙ get_or-set_same s.0.r i o.first_value 0 i_in_list)
      | inr ne ↦
          let f : eqb k o.first_location ≡ false = ne_eqb k o.first_location (λ e. ne (e ∙ first)) in
          rw (f, g) (register_after ∙ get_or-set_other s.0.r i k o.first_value 0 ne)
    ])
    (λ k up below. (λ e. omega arith, λ e. omega arith))

-- after an instruction that changes a register pair, each location has the value that the landing
-- gives
locations-agree-if-pair-changes : (s t : TrackedMachine) (o : Landing) (i : ℕ) → i < 8 → length s.0.r ≡ 16 → t.0.dcl ≡ o.regs.dcl → t.1.rom_src ≡ s.1.rom_src → t.1.ram_src ≡ s.1.ram_src → t.0.r ≡ slice_set (slice_set s.0.r (2 * i) o.first_value) (2 * i + 1) o.second_value → o.first_location ≡ 2 * i → o.second_location ≡ 2 * i + 1 →
    (k : ℕ) → k < 26 → value_at t k ≡ value_after o k (value_at s k)
locations-agree-if-pair-changes s t o i small len bank src srcs r first second =
    let upper = slice_set s.0.r (2 * i) o.first_value in
    locations-agree-from-registers s t o bank src srcs
    (λ k low.
    let register_after : slice_index t.0.r k ≡ slice_index (slice_set upper (2 * i + 1) o.second_value) k = ap (λ (l : List ℕ). slice_index l k) r in
    elim (cases_eq k (2 * i + 1)) [
      | inl e ↦
          let f : eqb k o.first_location ≡ false = ne_eqb k o.first_location (λ x. omega arith) in
          let g : eqb k o.second_location ≡ true = eq-eqb k o.second_location (e ∙ sym second) in
          let equal_lengths : length upper ≡ length s.0.r = length-set s.0.r (2 * i) o.first_value in
          let high_in_list : 2 * i + 1 < length upper = omega arith in
          rw (f, g) (register_after ∙ ap (slice_index (slice_set upper (2 * i + 1) o.second_value)) e ∙ get_or-set_same upper (2 * i + 1) o.second_value 0 high_in_list)
      | inr ne ↦
          let g : eqb k o.second_location ≡ false = ne_eqb k o.second_location (λ e. ne (e ∙ second)) in
          let low_kept : slice_index t.0.r k ≡ slice_index upper k = register_after ∙ get_or-set_other upper (2 * i + 1) k o.second_value 0 ne in
          elim (cases_eq k (2 * i)) [
            | inl e ↦
                let f : eqb k o.first_location ≡ true = eq-eqb k o.first_location (e ∙ sym first) in
                let high_in_list : 2 * i < length s.0.r = omega arith in
                rw f (low_kept ∙ ap (slice_index upper) e ∙ get_or-set_same s.0.r (2 * i) o.first_value 0 high_in_list)
            | inr other ↦
                let f : eqb k o.first_location ≡ false = ne_eqb k o.first_location (λ e. other (e ∙ first)) in
                rw (f, g) (low_kept ∙ get_or-set_other s.0.r (2 * i) k o.first_value 0 other)
          ]
    ])
    (λ k up below. (λ e. omega arith, λ e. omega arith))

-- ---- a landing describes the machine after the instruction

-- holds if a machine has the addresses, open calls, accumulator, carry and bank of a landing
pub record AgreesWithLanding (t : TrackedMachine) (o : Landing) : Type 0 where
  pub pc : t.0.pc ≡ o.regs.pc
  pub calls : t.2.calls ≡ o.calls
  pub ret : (k : ℕ) → k < 3 → k < o.calls → slice_index t.0.ret k ≡ slice_index o.regs.ret k
  pub acc : t.0.acc ≡ o.regs.acc
  pub cy : t.0.cy ≡ o.regs.cy
  pub dcl : t.0.dcl ≡ o.regs.dcl

-- holds if two machines have the same SRC bytes
pub record HaveSameSrcBytes (s t : TrackedMachine) : Type 0 where
  pub rom : t.1.rom_src ≡ s.1.rom_src
  pub ram : t.1.ram_src ≡ s.1.ram_src

pub landing-describes-if-none-changes : (s t : TrackedMachine) (o : Landing) → length s.0.r ≡ 16 → length s.1.ram_src ≡ 8 → AgreesWithLanding t o → HaveSameSrcBytes s t → t.0.r ≡ s.0.r → o.first_location ≡ 26 → o.second_location ≡ 26 → LandingDescribes s t o
landing-describes-if-none-changes s t o registers banks a src r first second = record {
  pc = a.pc;
  calls = a.calls;
  ret = a.ret;
  acc = a.acc;
  cy = a.cy;
  locations = locations-agree-if-none-changes s t o a.dcl src.rom src.ram r first second;
  registers = ap (λ (l : List ℕ). length l) r ∙ registers;
  banks = ap (λ (l : List ℕ). length l) src.ram ∙ banks;
}

pub landing-describes-if-one-register-changes : (s t : TrackedMachine) (o : Landing) (i : ℕ) → i < 16 → length s.0.r ≡ 16 → length s.1.ram_src ≡ 8 → AgreesWithLanding t o → HaveSameSrcBytes s t → t.0.r ≡ slice_set s.0.r i o.first_value → o.first_location ≡ i → o.second_location ≡ 26 → LandingDescribes s t o
landing-describes-if-one-register-changes s t o i small registers banks a src r first second = record {
  pc = a.pc;
  calls = a.calls;
  ret = a.ret;
  acc = a.acc;
  cy = a.cy;
  locations = locations-agree-if-one-register-changes s t o i small registers a.dcl src.rom src.ram r first second;
  registers = ap (λ (l : List ℕ). length l) r ∙ length-set s.0.r i o.first_value ∙ registers;
  banks = ap (λ (l : List ℕ). length l) src.ram ∙ banks;
}

pub landing-describes-if-pair-changes : (s t : TrackedMachine) (o : Landing) (i : ℕ) → i < 8 → length s.0.r ≡ 16 → length s.1.ram_src ≡ 8 → AgreesWithLanding t o → HaveSameSrcBytes s t → t.0.r ≡ slice_set (slice_set s.0.r (2 * i) o.first_value) (2 * i + 1) o.second_value → o.first_location ≡ 2 * i → o.second_location ≡ 2 * i + 1 → LandingDescribes s t o
landing-describes-if-pair-changes s t o i small registers banks a src r first second = record {
  pc = a.pc;
  calls = a.calls;
  ret = a.ret;
  acc = a.acc;
  cy = a.cy;
  locations = locations-agree-if-pair-changes s t o i small registers a.dcl src.rom src.ram r first second;
  registers = ap (λ (l : List ℕ). length l) r ∙ length-set (slice_set s.0.r (2 * i) o.first_value) (2 * i + 1) o.second_value ∙ length-set s.0.r (2 * i) o.first_value ∙ registers;
  banks = ap (λ (l : List ℕ). length l) src.ram ∙ banks;
}
