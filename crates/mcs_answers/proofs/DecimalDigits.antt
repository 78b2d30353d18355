-- Lemmas about the decimal digits of a number and their count.
use Rattle.std.proofs.Common.{◌≡◌, ℕ, ◌+◌, ◌/◌, ◌%◌, ◌<◌, ◌≤◌, ◌^◌, List, [], ◌∷◌, ◌++◌, length, ap, ◌∙◌, sym, append_assoc, arith}
use Rattle.std.proofs.lemmas.Grind.{common_steps}
use Rattle.std.proofs.lemmas.Fmt.{decimal_step, length-decimal-le}
use Rattle.std.specs.Fmt.{decimal}

pub length-decimal-step : (n : ℕ) → 10 ≤ n → n < 2 ^ 64 → length (decimal n) ≡ length (decimal (n / 10)) + 1
length-decimal-step n h k = rw (decimal_step n h k) (grind (arith, common_steps))

pub decimal-from-appended-last-digit : (text : List ℕ) (n : ℕ) → 10 ≤ n → n < 2 ^ 64 → (text ++ decimal (n / 10)) ++ (48 + n % 10) ∷ [] ≡ text ++ decimal n
decimal-from-appended-last-digit text n h k = append_assoc text (decimal (n / 10)) ((48 + n % 10) ∷ []) ∙ ap (λ v. text ++ v) (sym (decimal_step n h k))

pub length-decimal-at-most-twenty : (n : ℕ) → n < 2 ^ 64 → length (decimal n) ≤ 20
length-decimal-at-most-twenty n h =
    let a : n < 10 ^ 20 = omega arith in
    let c : 0 < 20 = omega arith in
    length-decimal-le 20 n c a h
