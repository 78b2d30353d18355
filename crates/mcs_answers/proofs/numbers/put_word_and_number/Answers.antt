use Rattle.std.proofs.Common.{arith, ◌≡◌, ◌+◌, ◌≤◌, ◌++◌, length, ◌∙◌, ap, append_assoc, length-append}
use Rattle.std.specs.Fmt.{decimal}
use Rattle.mcs_answers.proofs.DecimalDigits.{length-decimal-at-most-twenty}
use Rattle.mcs_answers.proofs.numbers.put_word_and_number.Goals as goal

pub put_decimal-requires : goal.put_decimal-requires
put_decimal-requires c =
    let short : length (decimal c.args.n) ≤ 20 = length-decimal-at-most-twenty c.args.n (omega arith) in
    omega arith

pub returns-clause-text : goal.returns-clause-text
returns-clause-text c =
    c.put_decimal.ensures
    ∙ ap (λ v. v ++ decimal c.args.n) c.put.ensures.text
    ∙ append_assoc c.args.answer.now.items c.args.word.now (decimal c.args.n)

pub returns-clause-count : goal.returns-clause-count
returns-clause-count c =
    let short : length (decimal c.args.n) ≤ 20 = length-decimal-at-most-twenty c.args.n (omega arith) in
    let more : length c.put_decimal.new.answer.items ≡ length c.put.new.answer.items + length (decimal c.args.n) =
    ap length c.put_decimal.ensures ∙ length-append c.put.new.answer.items (decimal c.args.n) in
    omega arith
