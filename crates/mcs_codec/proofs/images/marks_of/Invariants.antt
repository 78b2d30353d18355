use Rattle.std.proofs.Common.{◌≡◌, ℕ, ◌<◌, get_or, take}
use Rattle.mcs_codec.specs.CommandBytes.{mark}
use Rattle.mcs_codec.proofs.images.marks_of.Given as goal

-- the marks are those of the part of the image that the loop has processed
abbrev pub invariant-loop-pair : goal.invariant-loop-pair
invariant-loop-pair l = (at : ℕ) → at < 4096 → get_or l.marks at 0 ≡ mark (take l.pair-index l.image) at
