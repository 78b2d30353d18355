use Rattle.std.proofs.Common.{◌≡◌, ◌++◌, ◌+◌, map, take, length}
use Rattle.mcs_model.specs.QueryText.{hex_digit}
use Rattle.mcs_answers.proofs.digits.put_digits.Given as goal

abbrev pub invariant-loop-nibble : goal.invariant-loop-nibble
invariant-loop-nibble l = record {
  text : l.answer.items ≡ l.fn.answer.items ++ map hex_digit (take l.nibble-index l.nibbles);
  room : length l.answer.items ≡ length l.fn.answer.items + l.nibble-index;
}
