use Rattle.std.proofs.Common.{arith, ◌≡◌, ◌+◌, ◌<◌, ◌≤◌, ◌^◌, length, ◌∙◌, ap, length-append}
use Rattle.std.proofs.lemmas.Fmt.{length-decimal-le}
use Rattle.std.specs.Fmt.{decimal}
use Rattle.mcs_answers.proofs.state_lists.put_below_100.Goals as goal

pub put_decimal-requires : goal.put_decimal-requires
put_decimal-requires c =
    let some : 0 < 2 = omega arith in
    let few : c.from.result < 10 ^ 2 = omega arith in
    let fits : c.from.result < 2 ^ 64 = omega arith in
    let short : length (decimal c.from.result) ≤ 2 = length-decimal-le 2 c.from.result some few fits in
    omega arith

pub returns-clause-count : goal.returns-clause-count
returns-clause-count c =
    let some : 0 < 2 = omega arith in
    let few : c.from.result < 10 ^ 2 = omega arith in
    let fits : c.from.result < 2 ^ 64 = omega arith in
    let short : length (decimal c.from.result) ≤ 2 = length-decimal-le 2 c.from.result some few fits in
    let more : length c.put_decimal.new.answer.items ≡ length c.args.answer.now.items + length (decimal c.from.result) =
    ap length c.put_decimal.ensures ∙ length-append c.args.answer.now.items (decimal c.from.result) in
    omega arith
