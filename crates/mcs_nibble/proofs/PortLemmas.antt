-- Lemmas about port latches: for example, a latch does not change if its own contents are written
-- to it.
use Rattle.std.proofs.Common.{◌≡◌, ℕ, ◌+◌, ◌*◌, ◌<◌, List, refl, arith, if◌then◌else◌, Some}
use Rattle.mcs_nibble.specs.Bits.{bit_of, nibble_of}
use Rattle.mcs_nibble.specs.Ports.{is_input, mask_at, latch_bit, latch_value, mask_character, mask_of}
use Rattle.mcs_nibble.specs.declared.lines.LineMask.{LineMask}
use Rattle.mcs_nibble.specs.declared.lines.LineMask.TheVariants.{Input, Zero, One}

-- holds if bits 0 to 3 of `n` are `a`, `b`, `c` and `d`
record Bits (n a b c d : ℕ) : Type 0 where
  at_0 : bit_of n 0 ≡ a
  at_1 : bit_of n 1 ≡ b
  at_2 : bit_of n 2 ≡ c
  at_3 : bit_of n 3 ≡ d

bits-of_sum : (a b c d : ℕ) → a < 2 → b < 2 → c < 2 → d < 2 → Bits (a + 2 * b + 4 * c + 8 * d) a b c d
bits-of_sum a b c d ha hb hc hd = record { at_0 = omega arith; at_1 = omega arith; at_2 = omega arith; at_3 = omega arith }

latch_bit-below_2 : (mask : List LineMask) (n k : ℕ) → latch_bit mask n k < 2
latch_bit-below_2 mask n k =
    elim (mask_at mask k) as (λ m. (if is_input m then 0 else bit_of n k) < 2) [
      | Input ↦ omega arith
      | Zero ↦ omega arith
      | One ↦ omega arith
    ]

latch_bit-of_latch_bit : (mask : List LineMask) (n latch k : ℕ) → bit_of latch k ≡ latch_bit mask n k → latch_bit mask latch k ≡ latch_bit mask n k
latch_bit-of_latch_bit mask n latch k =
    elim (mask_at mask k) as (λ m. bit_of latch k ≡ (if is_input m then 0 else bit_of n k) → (if is_input m then 0 else bit_of latch k) ≡ (if is_input m then 0 else bit_of n k)) [
      | Input ↦ λ _. refl
      | Zero ↦ λ e. e
      | One ↦ λ e. e
    ]

pub latch_value-of_latch_value : (mask : List LineMask) (n : ℕ) → latch_value mask (latch_value mask n) ≡ latch_value mask n
unfolding latch_value
latch_value-of_latch_value mask n =
    let b = bits-of_sum (latch_bit mask n 0) (latch_bit mask n 1) (latch_bit mask n 2) (latch_bit mask n 3) (latch_bit-below_2 mask n 0) (latch_bit-below_2 mask n 1) (latch_bit-below_2 mask n 2) (latch_bit-below_2 mask n 3) in
    let x = nibble_of (latch_bit mask n) in
    let e0 = latch_bit-of_latch_bit mask n x 0 b.at_0 in
    let e1 = latch_bit-of_latch_bit mask n x 1 b.at_1 in
    let e2 = latch_bit-of_latch_bit mask n x 2 b.at_2 in
    let e3 = latch_bit-of_latch_bit mask n x 3 b.at_3 in
    rw (e0, e1, e2, e3) refl

latch_bit-zero : (mask : List LineMask) (k : ℕ) → bit_of 0 k ≡ 0 → latch_bit mask 0 k ≡ 0
latch_bit-zero mask k z =
    elim (mask_at mask k) as (λ m. (if is_input m then 0 else bit_of 0 k) ≡ 0) [
      | Input ↦ refl
      | Zero ↦ z
      | One ↦ z
    ]

pub latch_value-zero : (mask : List LineMask) → latch_value mask 0 ≡ 0
unfolding latch_value
latch_value-zero mask = rw (latch_bit-zero mask 0 refl, latch_bit-zero mask 1 refl, latch_bit-zero mask 2 refl, latch_bit-zero mask 3 refl) refl

-- `mask_of` inverts `mask_character`
pub mask_of-mask_character : (m : LineMask) → mask_of (mask_character m) ≡ Some m
mask_of-mask_character Input = refl
mask_of-mask_character Zero = refl
mask_of-mask_character One = refl
