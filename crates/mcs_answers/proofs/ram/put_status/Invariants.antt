use Rattle.std.proofs.Common.{◌≡◌, ◌+◌, ◌*◌, ◌++◌, length, map}
use Rattle.mcs_model.specs.QueryText.{hex_digit, sublist}
use Rattle.mcs_answers.proofs.ram.put_status.Given as goal

abbrev pub invariant-loop-k : goal.invariant-loop-k
invariant-loop-k l = record {
  text : l.answer.items ≡ l.fn.answer.items ++ map hex_digit (sublist l.bench.bus.status (l.bank * 64 + l.chip * 16 + l.r * 4) l.k);
  count : length l.answer.items ≡ length l.fn.answer.items + l.k;
}
