use Rattle.std.proofs.Common.{◌≡◌, ◌+◌, ◌++◌, length, take}
use Rattle.std.specs.List.{flat_map}
use Rattle.mcs_codec.proofs.encoding.put_all.Given as goal

-- the front of the buffer holds the encodings of the values that the loop has written
abbrev pub invariant-loop-item : goal.invariant-loop-item
invariant-loop-item g l = record {
  end : l.end ≡ l.at + length (flat_map g.T.Encode.spelling (take l.item-index l.items));
  front : take l.end l.out ≡ take l.at l.fn.out ++ flat_map g.T.Encode.spelling (take l.item-index l.items);
}
