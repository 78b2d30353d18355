use Rattle.std.proofs.Common.{◌≡◌, ◌∙◌, ◌++◌, ◌+◌, List, ℕ, suc, ap, sym, arith, string_bytes, append_assoc}
use Rattle.mcs_prove.specs.Answers.{first_digits, hex_digit}
use Rattle.mcs_prove.proofs.answer.push_digits.Goals as goal

pub loop-index-preserved : goal.loop-index-preserved
loop-index-preserved c =
    let old = string_bytes c.args.out.now in
    let before = first_digits c.args.levels.now c.loop-index.index in
    let next : c.loop-index.index + 1 ≡ suc c.loop-index.index = omega arith in
    c.in_ok-push_digit.ensures
    ∙ ap (λ (xs : List ℕ). xs ++ hex_digit c.digit_at.result) c.loop-index.invariant
    ∙ append_assoc old before (hex_digit c.digit_at.result)
    ∙ ap (λ (d : ℕ). old ++ (before ++ hex_digit d)) c.digit_at.ensures
    ∙ sym (ap (λ (n : ℕ). old ++ first_digits c.args.levels.now n) next)
