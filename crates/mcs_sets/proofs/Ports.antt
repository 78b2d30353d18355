-- The value that is read from a port is below 16.
use Rattle.std.proofs.Common.{◌<◌, ◌/◌, ℕ, Bool, true, false, List, Option, Some, None, arith}
use Rattle.mcs_nibble.specs.declared.lines.LineMask.{LineMask}
use Rattle.mcs_nibble.specs.declared.lines.LineMask.TheVariants.{Input, Zero, One}
use Rattle.mcs_nibble.specs.Ports.{mask_at, read_bit, read_lines}
use Rattle.mcs_model.specs.Boards.{rom_masks}
use Rattle.mcs_model.specs.Bus.{BusState}
use Rattle.mcs_model.specs.Levels.{bit_when, is_pulled, port_at, port_of}

bit_when-is-bit : (b : Bool) → bit_when b < 2
bit_when-is-bit true = omega arith
bit_when-is-bit false = omega arith

read_bit-below-two : (f : ℕ → ℕ) (mask : List LineMask) (k : ℕ) → f k < 2 → read_bit f mask k < 2
read_bit-below-two f mask k e =
    elim (mask_at mask k) as (λ m. elim m as (λ _. ℕ) [ Input ↦ f k | Zero ↦ 0 | One ↦ 1 ] < 2) [ Input ↦ e | Zero ↦ omega arith | One ↦ omega arith ]

read_lines-below-16 : (f : ℕ → Bool) (mask : List LineMask) → read_lines (λ k. bit_when (f k)) mask < 16
unfolding read_lines
read_lines-below-16 f mask =
    let a : ℕ → ℕ = λ k. bit_when (f k) in
    let b0 = read_bit-below-two a mask 0 (bit_when-is-bit (f 0)) in
    let b1 = read_bit-below-two a mask 1 (bit_when-is-bit (f 1)) in
    let b2 = read_bit-below-two a mask 2 (bit_when-is-bit (f 2)) in
    let b3 = read_bit-below-two a mask 3 (bit_when-is-bit (f 3)) in
    omega arith

masked-port-below-16 : (f : ℕ → Bool) (o : Option (List LineMask)) → elim o as (λ _. ℕ) [ Some mask ↦ read_lines (λ k. bit_when (f k)) mask | None ↦ 0 ] < 16
masked-port-below-16 f (Some mask) = read_lines-below-16 f mask
masked-port-below-16 f None = omega arith

pub port-below-16 : (s : BusState) → port_of s < 16
unfolding port_at
port-below-16 s = masked-port-below-16 (λ k. is_pulled s (s.rom_src / 16) k) (rom_masks s.board (s.rom_src / 16))
