use Rattle.std.proofs.Common.{◌≡◌, ◌+◌, ◌++◌, take}
use Rattle.mcs_codec.specs.StateLists.{list_in_state}
use Rattle.mcs_codec.proofs.saving.StateList.put.Given as goal

-- the front of the buffer holds the first `i` items of the list
abbrev pub invariant-loop-i : goal.invariant-loop-i
invariant-loop-i l = take (l.at + l.i) l.out ≡ take l.at l.fn.out ++ take l.i (list_in_state l.self l.bench)
