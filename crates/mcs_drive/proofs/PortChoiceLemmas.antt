-- The value read at the port of a ROM is one of 16 values.
use Rattle.std.proofs.Common.{◌≡◌, ℕ, ◌+◌, ◌*◌, ◌/◌, ◌<◌, Bool, true, false, ◌&&◌, List, Option, Some, None, refl, arith, eqb}
use Rattle.mcs_nibble.specs.declared.lines.LineMask.{LineMask}
use Rattle.mcs_nibble.specs.declared.lines.LineMask.TheVariants.{Input, Zero, One}
use Rattle.mcs_nibble.specs.Bits.{bit_of, nibble_of}
use Rattle.mcs_nibble.specs.Ports.{mask_at, read_bit, read_lines}
use Rattle.mcs_model.specs.Boards.{rom_masks}
use Rattle.mcs_model.specs.Bus.{BusState}
use Rattle.mcs_model.specs.Levels.{bit_when, is_pulled, port_at, port_of}
use Rattle.mcs_model.specs.Running.{Machine}
use Rattle.mcs_drive.specs.DrivenRuns.{Levels, with_levels}
use Rattle.mcs_drive.specs.InputReads.{can_be_pulled, port_choice}
use Rattle.mcs_drive.proofs.ReadValueLemmas.{can_be_pulled-if-pulled}

-- holds if `n` is below 16 and has the bits `a`, `b`, `c` and `d`, bit 0 first
pub record Bits (n a b c d : ℕ) : Type 0 where
  pub at_0 : bit_of n 0 ≡ a
  pub at_1 : bit_of n 1 ≡ b
  pub at_2 : bit_of n 2 ≡ c
  pub at_3 : bit_of n 3 ≡ d
  pub less : n < 16

pub bits : (a b c d : ℕ) → a < 2 → b < 2 → c < 2 → d < 2 → Bits (a + 2 * b + 4 * c + 8 * d) a b c d
bits a b c d ha hb hc hd = record { at_0 = omega arith; at_1 = omega arith; at_2 = omega arith; at_3 = omega arith; less = omega (arith) }

pub bit-lt : (b : Bool) → bit_when b < 2
bit-lt true = omega arith
bit-lt false = omega arith

bit_when-with-implied-condition : (a m : Bool) (b : ℕ) → (a ≡ true → m ≡ true) → b ≡ bit_when a → bit_when a ≡ bit_when (eqb b 1 && m)
bit_when-with-implied-condition true m b h e = rw (e, h refl) refl
bit_when-with-implied-condition false m b h e = rw e refl

read_bit-of-equal-levels : (f g : ℕ → ℕ) (mask : List LineMask) (k : ℕ) → f k ≡ g k → read_bit f mask k ≡ read_bit g mask k
read_bit-of-equal-levels f g mask k e =
    elim (mask_at mask k) as (λ m. elim m as (λ _. ℕ) [ Input ↦ f k | Zero ↦ 0 | One ↦ 1 ] ≡ elim m as (λ _. ℕ) [ Input ↦ g k | Zero ↦ 0 | One ↦ 1 ]) [ Input ↦ e | Zero ↦ refl | One ↦ refl ]

read_lines-of-equal-levels : (f g : ℕ → ℕ) (mask : List LineMask) → f 0 ≡ g 0 → f 1 ≡ g 1 → f 2 ≡ g 2 → f 3 ≡ g 3 → read_lines f mask ≡ read_lines g mask
unfolding read_lines
read_lines-of-equal-levels f g mask e0 e1 e2 e3 =
    let r0 = read_bit-of-equal-levels f g mask 0 e0 in
    let r1 = read_bit-of-equal-levels f g mask 1 e1 in
    let r2 = read_bit-of-equal-levels f g mask 2 e2 in
    let r3 = read_bit-of-equal-levels f g mask 3 e3 in
    rw (r0, r1, r2, r3) refl

port-value-is-choice : (s : BusState) (chip : ℕ) (f : ℕ → Bool) (c : ℕ) (o : Option (List LineMask)) → ((k : ℕ) → f k ≡ true → can_be_pulled s chip k ≡ true) → Bits c (bit_when (f 0)) (bit_when (f 1)) (bit_when (f 2)) (bit_when (f 3)) →
    elim o as (λ _. ℕ) [ Some mask ↦ read_lines (λ k. bit_when (f k)) mask | None ↦ 0 ]
    ≡ elim o as (λ _. ℕ) [ Some mask ↦ read_lines (λ k. bit_when (eqb (bit_of c k) 1 && can_be_pulled s chip k)) mask | None ↦ 0 ]
port-value-is-choice s chip f c None h b = refl
port-value-is-choice s chip f c (Some mask) h b =
    read_lines-of-equal-levels (λ k. bit_when (f k)) (λ k. bit_when (eqb (bit_of c k) 1 && can_be_pulled s chip k)) mask
    (bit_when-with-implied-condition (f 0) (can_be_pulled s chip 0) (bit_of c 0) (h 0) b.at_0)
    (bit_when-with-implied-condition (f 1) (can_be_pulled s chip 1) (bit_of c 1) (h 1) b.at_1)
    (bit_when-with-implied-condition (f 2) (can_be_pulled s chip 2) (bit_of c 2) (h 2) b.at_2)
    (bit_when-with-implied-condition (f 3) (can_be_pulled s chip 3) (bit_of c 3) (h 3) b.at_3)

pub port_of-is-some-port_choice : (l : Levels) (s : Machine) → (c : ℕ) × (c < 16) × (port_of (with_levels l s).1 ≡ port_choice s.1 (s.1.rom_src / 16) c)
unfolding port_at
port_of-is-some-port_choice l s =
    let chip = s.1.rom_src / 16 in
    let f : ℕ → Bool = λ k. is_pulled (with_levels l s).1 chip k in
    let b = bits (bit_when (f 0)) (bit_when (f 1)) (bit_when (f 2)) (bit_when (f 3)) (bit-lt (f 0)) (bit-lt (f 1)) (bit-lt (f 2)) (bit-lt (f 3)) in
    (nibble_of (λ k. bit_when (f k)), b.less, port-value-is-choice s.1 chip f (nibble_of (λ k. bit_when (f k))) (rom_masks s.1.board chip) (λ k h. can_be_pulled-if-pulled l s chip k h) b)
