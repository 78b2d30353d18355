-- The bits of a nibble. Bit 0 is the least significant bit.
use Rattle.std.specs.Prelude.{ℕ, ◌+◌, ◌*◌, ◌/◌, ◌%◌, ◌^◌}

-- bit `k` of the number `n`
abbrev pub bit_of : ℕ → ℕ → ℕ
bit_of n k = n / 2 ^ k % 2

-- the nibble whose bit `k` is `f k`, for `k` from 0 to 3
abbrev pub nibble_of : (ℕ → ℕ) → ℕ
nibble_of f = f 0 + 2 * f 1 + 4 * f 2 + 8 * f 3
