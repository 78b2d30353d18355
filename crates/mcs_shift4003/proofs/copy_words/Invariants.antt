use Rattle.std.proofs.Common.{◌≡◌, take}
use Rattle.mcs_shift4003.proofs.copy_words.Given as goal

abbrev pub invariant-loop-word : goal.invariant-loop-word
invariant-loop-word g l = l.copy.items ≡ take l.word-index l.word-items
