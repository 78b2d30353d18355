use Rattle.std.proofs.Common.{◌≡◌, ℕ, zero, suc, [], ◌∷◌, ◌-◌, ◌≤◌, List, ◌++◌, length, take, min, ap, sym, ◌∙◌, arith, rules}
use Rattle.std.proofs.lemmas.List.{take_min}
use Rattle.mcs_shell.proofs.unfinished.append_truncated.Goals as goal

take-append : (n : ℕ) (a b : List ℕ) → length a ≤ n → take n (a ++ b) ≡ a ++ take (n - length a) b
take-append n [] b h = ap (λ k. take k b) (let e : n ≡ n - 0 = omega arith in e)
take-append zero (x ∷ a) b h = absurd (omega (arith, h))
take-append (suc m) (x ∷ a) b h =
    let fits_in_m : length a ≤ m = omega (arith, h) in
    let e : m - length a ≡ suc m - length (x ∷ a) = omega arith in
    ap (λ v. x ∷ v) (take-append m a b fits_in_m) ∙ ap (λ k. x ∷ (a ++ take k b)) e

pub returns : goal.returns
returns c =
    let fits : length c.args.line.now.items ≤ 16386 = search rules in
    let added : c.try_extend_from_slice.new.self.items ≡ c.args.line.now.items ++ take c.min-count.result c.args.bytes.now = search rules in
    let room : c.min-count.result ≡ min (16386 - length c.args.line.now.items) (length c.args.bytes.now) = search rules in
    added ∙ ap (λ n. c.args.line.now.items ++ take n c.args.bytes.now) room
    ∙ ap (λ v. c.args.line.now.items ++ v) (take_min (16386 - length c.args.line.now.items) c.args.bytes.now)
    ∙ sym (take-append 16386 c.args.line.now.items c.args.bytes.now fits)
