use Rattle.std.proofs.Common.{refl, ◌≡◌, ◌≤◌, ◌<◌, ◌+◌, ◌*◌, length, ap, subst, sym, ◌∙◌, arith, ℕ, min, eqb, false}
use Rattle.std.proofs.lemmas.Bool.{eqb-false}
use Rattle.std.specs.Char.{digit_value}
use Rattle.mcs_model.proofs.Digits.{value_with_digit_read, no_value-with_non_digit, value_of_all_digits}
use Rattle.std.specs.Prelude.{option_map, None}
use Rattle.mcs_model.specs.Numerals.{value_of_digits}
use Rattle.mcs_model.proofs.numeral.parse_digits.Goals as goal

pub returns-in_err-digit : goal.returns-in_err-digit
returns-in_err-digit c =
    let big : c.args.base ≤ digit_value c.from.result = omega (arith, c.in_err-digit.ensures.value) in
    let none : value_of_digits c.args.base c.args.ds.now ≡ None = no_value-with_non_digit c.args.base c.loop-c.c-index c.args.ds.now c.loop-c-test.true (subst (λ (k : ℕ). c.args.base ≤ digit_value k) c.from.ensures big) in
    c.from_residual.ensures ∙ sym (ap (option_map (λ n. min n 4294967296)) none)

pub loop-c-preserved : goal.loop-c-preserved
loop-c-preserved c =
    let capped : c.min-value.result ≡ min (c.loop-c.value * c.args.base + c.in_ok-digit.digit) 4294967296 = rw (c.min-value.ensures, c.from-in-loop-c.ensures, c.from-in-loop-c-2.ensures) refl in
    value_with_digit_read c.args.base c.loop-c.value c.loop-c.c-index c.args.ds.now c.from.result c.in_ok-digit.digit c.min-value.result c.requires c.loop-c-test.true c.from.ensures c.in_ok-digit.ensures.value.0 c.in_ok-digit.ensures.value.1 capped c.loop-c.invariant

pub returns : goal.returns
returns c =
    let not_empty : eqb (length c.args.ds.now) 0 ≡ false = sym c.is_empty.ensures ∙ c.if-is_empty.false in
    let some : 0 < length c.args.ds.now = omega (arith, eqb-false _ _ not_empty) in
    value_of_all_digits c.args.base c.loop-c.value c.loop-c.c-index c.args.ds.now some (omega arith) c.loop-c.invariant
