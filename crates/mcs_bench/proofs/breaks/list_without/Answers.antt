use Rattle.std.proofs.Common.{ℕ, not, ap, arith, length, take, length-take-le, eqb, refl}
use Rattle.std.proofs.lemmas.List.Filters.{length-filter_both}
use Rattle.mcs_bench.proofs.breaks.list_without.Goals as goal

pub push-requires : goal.push-requires
push-requires c =
    let i = c.loop-address.address-index in
    let xs = c.as_slice-address-items.result.now in
    let lengths_equal = ap length c.loop-address.invariant in
    let few = length-filter_both (λ (a : ℕ). not (eqb a c.args.at)) (λ (a : ℕ). not (not (eqb a c.args.at))) (λ _. refl) (take i xs) in
    let long = length-take-le i xs (omega arith) in
    omega arith
