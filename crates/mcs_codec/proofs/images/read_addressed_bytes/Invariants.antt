use Rattle.std.proofs.Common.{◌≡◌, ◌-◌, ◌<◌}
use Rattle.std.specs.List.{All}
use Rattle.mcs_codec.specs.CommandReading.{addressed_bytes_at}
use Rattle.mcs_codec.proofs.Loops.{with_front}
use Rattle.mcs_codec.proofs.images.read_addressed_bytes.Given as goal

-- the bytes already read, followed by the bytes still to be read, are all the bytes of the image
abbrev pub invariant-loop-at : goal.invariant-loop-at
invariant-loop-at l = record {
  all : with_front l.image (addressed_bytes_at l.marks (4096 - l.at) l.at l.reader) ≡ addressed_bytes_at l.marks 4096 0 l.fn.reader;
  below : All (λ p. p.0 < l.at) l.image;
}
