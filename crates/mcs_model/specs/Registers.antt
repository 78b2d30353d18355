-- The registers of the processor as numbers and lists.
use Rattle.std.specs.Prelude.{ℕ, ◌+◌, ◌*◌, ◌/◌, ◌%◌, slice_index, slice_set}
use Rattle.mcs_model.specs.declared.regs.Regs.{Regs}

-- the value of index register `r`
abbrev pub register_of : Regs → ℕ → ℕ
register_of s r = slice_index s.r r

-- the value of register pair `k`; register `2 * k` is the upper nibble (MCS-4 Users Manual, index
-- registers)
abbrev pub pair_of : Regs → ℕ → ℕ
pair_of s k = register_of s (2 * k) * 16 + register_of s (2 * k + 1)

-- the registers with index register `r` set to `n`
abbrev pub with_register : Regs → ℕ → ℕ → Regs
with_register s r n = record s { r = slice_set s.r r n }

-- the registers with both registers of pair `k` set from a byte; register `2 * k` gets the upper
-- nibble
abbrev pub with_pair : Regs → ℕ → ℕ → Regs
with_pair s k byte =
    record s { r = slice_set (slice_set s.r (2 * k) (byte / 16)) (2 * k + 1) (byte % 16) }
