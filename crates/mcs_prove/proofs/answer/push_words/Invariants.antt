use Rattle.std.proofs.Common.{◌≡◌, ◌++◌, string_bytes, take}
use Rattle.std.specs.List.{flat_map}
use Rattle.mcs_prove.specs.Answers.{space_and_word}
use Rattle.mcs_prove.proofs.answer.push_words.Given as goal

abbrev pub invariant-loop-levels : goal.invariant-loop-levels
invariant-loop-levels l = string_bytes l.out ≡ string_bytes l.initial.out ++ flat_map space_and_word (take l.levels-index l.steps)
