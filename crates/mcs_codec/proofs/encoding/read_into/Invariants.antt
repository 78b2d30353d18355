use Rattle.std.proofs.Common.{◌≡◌, ◌-◌, length, take}
use Rattle.mcs_codec.specs.Reading.{read_times}
use Rattle.mcs_codec.proofs.Loops.{with_front}
use Rattle.mcs_codec.proofs.encoding.read_into.Given as goal

-- the values read so far, followed by the values still to be read, are the values that the whole
-- reading gives
abbrev pub invariant-loop-i : goal.invariant-loop-i
invariant-loop-i g l = with_front (take l.i l.items) (read_times (length l.items - l.i) g.T.Decode.reading l.reader) ≡ read_times (length l.fn.items) g.T.Decode.reading l.fn.reader
