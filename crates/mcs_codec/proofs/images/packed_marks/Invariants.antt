use Rattle.std.proofs.Common.{◌≡◌, ℕ, ◌+◌, ◌*◌, ◌<◌, length, get_or}
use Rattle.mcs_codec.specs.CommandBytes.{mark, byte_of_bits}
use Rattle.mcs_codec.proofs.images.packed_marks.Given as goal

-- the first `i` bytes of `packed` are the first `i` bytes of the packed marks
abbrev pub invariant-loop-i : goal.invariant-loop-i
invariant-loop-i l = record {
  len : length l.packed ≡ 512;
  so_far : (j : ℕ) → j < l.i → get_or l.packed j 0 ≡ byte_of_bits (λ k. mark l.image (8 * j + k));
}
