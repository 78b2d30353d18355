use Rattle.std.proofs.Common.{◌≡◌, ◌-◌, length}
use Rattle.mcs_codec.specs.Reading.{read_times}
use Rattle.mcs_codec.proofs.Loops.{with_front}
use Rattle.mcs_codec.proofs.encoding.read_list.Given as goal

-- the values read so far, followed by the values still to be read, are the values that the whole
-- reading gives
abbrev pub invariant-loop : goal.invariant-loop
invariant-loop g l = record {
  count : length l.items.items ≡ l.counter;
  all : with_front l.items.items (read_times (l.count - l.counter) g.T.Decode.reading l.reader) ≡ read_times l.count g.T.Decode.reading l.fn.reader;
}
