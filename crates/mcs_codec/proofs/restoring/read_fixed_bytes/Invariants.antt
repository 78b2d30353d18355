use Rattle.std.proofs.Common.{◌≡◌, length, take}
use Rattle.mcs_codec.proofs.restoring.read_fixed_bytes.Given as goal

-- the first `i` cells hold the first `i` bytes that were read
abbrev pub invariant-loop-i : goal.invariant-loop-i
invariant-loop-i l = record {
  len : length l.cells ≡ length l.bytes;
  front : take l.i l.cells ≡ take l.i l.bytes;
}
