use Rattle.std.proofs.Common.{arith, ◌≡◌, ◌+◌, ◌<◌, ◌/◌, ◌%◌, ◌^◌, ◌++◌, ◌∷◌, [], length, ◌∙◌, ap, length-append}
use Rattle.std.specs.Fmt.{decimal}
use Rattle.mcs_answers.proofs.DecimalDigits.{length-decimal-step, decimal-from-appended-last-digit}
use Rattle.mcs_answers.proofs.digits.+put_decimal.Goals as goal

pub put_decimal-requires : goal.put_decimal-requires
put_decimal-requires t c =
    let fits : c.args.n < 2 ^ 64 = omega arith in
    let step : length (decimal c.args.n) ≡ length (decimal (c.args.n / 10)) + 1 = length-decimal-step c.args.n c.if-n-lt10.false fits in
    let smaller : c.args.n / 10 < c.args.n = omega arith in
    (omega arith, omega arith)

pub push-requires-else-n-lt10 : goal.push-requires-else-n-lt10
push-requires-else-n-lt10 t c =
    let fits : c.args.n < 2 ^ 64 = omega arith in
    let step : length (decimal c.args.n) ≡ length (decimal (c.args.n / 10)) + 1 = length-decimal-step c.args.n c.if-n-lt10.false fits in
    let new_length : length c.put_decimal.new.answer.items ≡ length c.args.answer.now.items + length (decimal (c.args.n / 10)) =
    ap length c.put_decimal.ensures ∙ length-append c.args.answer.now.items (decimal (c.args.n / 10)) in
    (omega arith, omega arith)

pub returns-else-n-lt10 : goal.returns-else-n-lt10
returns-else-n-lt10 t c =
    let fits : c.args.n < 2 ^ 64 = omega arith in
    c.push-else-n-lt10.ensures.items ∙ ap (λ v. v ++ (48 + c.args.n % 10) ∷ []) c.put_decimal.ensures ∙ decimal-from-appended-last-digit c.args.answer.now.items c.args.n c.if-n-lt10.false fits
