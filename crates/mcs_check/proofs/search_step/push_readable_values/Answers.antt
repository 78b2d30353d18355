use Rattle.std.proofs.Common.{[], ◌∷◌, ◌++◌, ◌≡◌, ◌⊎◌, ◌∙◌, ℕ, inl, inr, List, Vec, Global, refl, sym, ap, subst, arith, below_more}
use Rattle.std.specs.List.{Contains}
use Rattle.std.proofs.lemmas.List.Elements.{Contains-append_left, Contains-append_right}
use Rattle.mcs_check.specs.ReadPoints.{CannotRead}
use Rattle.mcs_check.proofs.search_step.push_readable_values.Goals as goal
use Rattle.mcs_check.proofs.search_step.push_readable_values.Goals.{then-can_read+in_ok-push, else-can_read}

pub loop-value-preserved : goal.loop-value-preserved
loop-value-preserved c =
    let before = c.loop-value.into.items in
    let v = c.loop-value.value in
    let m = c.args.replica.now in
    let g = c.args.limits.now in
    elim c.if-can_read.branch [
      | then-can_read+in_ok-push w ↦
          let items : c.if-can_read.into.items ≡ before ++ v ∷ [] = ap (λ (x : Vec ℕ Global). x.items) w.into-is ∙ w.in_ok-push.ensures.items in
          below_more (λ k. CannotRead g k m ⊎ Contains c.if-can_read.into.items k) v
          (λ k h. elim (c.loop-value.invariant k h) [
            | inl cannot ↦ inl cannot
            | inr there ↦ inr (subst (λ (xs : List ℕ). Contains xs k) (sym items) (Contains-append_left before (v ∷ []) k there))
          ])
          (inr (subst (λ (xs : List ℕ). Contains xs v) (sym items) (Contains-append_right before (v ∷ []) v (0, omega arith, refl))))
      | else-can_read w ↦
          let items : c.if-can_read.into.items ≡ before = ap (λ (x : Vec ℕ Global). x.items) w.into-is in
          below_more (λ k. CannotRead g k m ⊎ Contains c.if-can_read.into.items k) v
          (λ k h. subst (λ (xs : List ℕ). CannotRead g k m ⊎ Contains xs k) (sym items) (c.loop-value.invariant k h))
          (inl (c.can_read.ensures w.if-can_read.false))
    ]

pub returns : goal.returns
returns c = λ value small. c.loop-value.invariant value (let end = c.loop-value-test.false in omega arith)
