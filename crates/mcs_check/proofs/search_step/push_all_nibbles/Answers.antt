use Rattle.std.proofs.Common.{[], ◌∷◌, ℕ, List, refl, sym, subst, arith, below_more}
use Rattle.std.specs.List.{Contains}
use Rattle.std.proofs.lemmas.List.Elements.{Contains-append_left, Contains-append_right}
use Rattle.mcs_check.proofs.search_step.push_all_nibbles.Goals as goal

pub loop-value-preserved : goal.loop-value-preserved
loop-value-preserved c =
    let before = c.loop-value.into.items in
    let v = c.loop-value.value in
    let items = c.in_ok-push.ensures.items in
    below_more (λ k. Contains c.push.new.self.items k) v
    (λ k h. subst (λ (xs : List ℕ). Contains xs k) (sym items) (Contains-append_left before (v ∷ []) k (c.loop-value.invariant k h)))
    (subst (λ (xs : List ℕ). Contains xs v) (sym items) (Contains-append_right before (v ∷ []) v (0, omega arith, refl)))

pub returns : goal.returns
returns c = λ value small. c.loop-value.invariant value (let end = c.loop-value-test.false in omega arith)
