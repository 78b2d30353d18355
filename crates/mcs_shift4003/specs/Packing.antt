-- The bits of a chain, packed into words of ten bits.
use Rattle.std.specs.Prelude.{◌≡◌, ℕ, zero, suc, ◌+◌, ◌/◌, ◌%◌, ◌<◌, ◌≤◌, List, length, slice_index}
use Rattle.mcs_nibble.specs.Bits.{bit_of}
use Rattle.mcs_nibble.specs.Tables.{table_of}

-- bit `i` of the chain that the words store: bit `i % 10` of word `i / 10`
abbrev pub packed_bit : List ℕ → ℕ → ℕ
packed_bit words i = bit_of (slice_index words (i / 10)) (i % 10)

-- the value that a shift moves into bit `i`: the level of the data line for bit 0, otherwise the
-- value of the bit before bit `i`
abbrev pub bit_after_shift : ℕ → List ℕ → ℕ → ℕ
bit_after_shift level words zero = level
bit_after_shift level words (suc i) = packed_bit words i

-- the first `bits` bits that the words store, as a list
unfoldable pub chain_bits_of : ℕ → List ℕ → List ℕ
chain_bits_of bits words = table_of bits (packed_bit words)

-- holds if the words store exactly `bits` bits: no word is unused, each word is below 1024, and all
-- bits at index `bits` and above are 0
pub record IsPacked (bits : ℕ) (words : List ℕ) : Type 0 where
  pub used : length words ≡ (bits + 9) / 10
  pub ten_bits : (k : ℕ) → slice_index words k < 1024
  pub past : (i : ℕ) → bits ≤ i → packed_bit words i ≡ 0
