use Rattle.std.proofs.Common.{◌≡◌, take}
use Rattle.mcs_codec.proofs.restoring.read_bytes.Given as goal

-- `items` holds the bytes that the loop has processed
abbrev pub invariant-loop-byte : goal.invariant-loop-byte
invariant-loop-byte g l = l.items.items ≡ take l.byte-index l.bytes
