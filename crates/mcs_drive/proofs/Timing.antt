-- The stopwatch of an observer during a run.
use Rattle.std.proofs.Common.{◌≡◌, ◌<◌, ◌≤◌, ◌+◌, ◌⊎◌, ℕ, zero, suc, inl, inr, Bool, true, false, cond, ◌||◌, nat_lt, nat_le, refl, sym, ap, ◌∙◌, subst, arith, eqb}
use Rattle.std.proofs.lemmas.Bool.{eqb-false, leb-true, lt-ltb, ne_eqb, or_parts}
use Rattle.mcs_drive.specs.DrivenRuns.{AreInputsAllowed, InputLimits, Levels}
use Rattle.mcs_drive.specs.TrackedMachine.{Observer, TrackedMachine, STOPWATCH_MAX, begins_at, ends_at, stopwatch_after, driven, Holds}

-- ---- one cycle

positive-if-not-zero : (n : ℕ) → (n ≡ 0 → ⊥) → 1 ≤ n
positive-if-not-zero zero h = absurd (h refl)
positive-if-not-zero (suc n) h = omega arith

cond-positive : (a b : Bool) (n : ℕ) → (a ≡ false → 1 ≤ n) → 1 ≤ cond a 1 (cond b (n + 1) n)
cond-positive true b n h = omega arith
cond-positive false true n h = omega arith
cond-positive false false n h = h refl

-- if the stopwatch begins at the machine before a cycle, it shows at least 1 after the cycle
stopwatch-positive-after-begin : (n : ℕ) (ends : Bool) → 1 ≤ stopwatch_after n true ends
stopwatch-positive-after-begin n ends = cond-positive (eqb n 0 || ends) (nat_lt n STOPWATCH_MAX) n (λ e. positive-if-not-zero n (eqb-false n 0 (or_parts (eqb n 0) ends e).0))

-- a running stopwatch that does not end counts the cycle
running-stopwatch-counts-cycle : (n m : ℕ) (begins ends : Bool) → 1 ≤ n → n < STOPWATCH_MAX → ends ≡ false → m ≤ n → suc m ≤ stopwatch_after n begins ends
running-stopwatch-counts-cycle n m begins ends runs few free more =
    let at : (eqb n 0 || ends) ≡ false = rw (ne_eqb n 0 (omega arith), free) refl in
    let below : nat_lt n STOPWATCH_MAX ≡ true = lt-ltb n STOPWATCH_MAX few in
    let is : stopwatch_after n begins ends ≡ n + 1 = rw (at, below) refl in
    subst (λ (k : ℕ). suc m ≤ k) (sym is) (omega arith)

module _ (w : Observer) where
  -- ---- a run

  -- holds if the stopwatch ends within `m` cycles after cycle `k`, or shows more than `m` after
  -- cycle `k + m`
  abbrev EndedOrShowsMore : (ℕ → Levels) → ℕ → TrackedMachine → ℕ → Type 0
  EndedOrShowsMore f k s m =
      ((d : ℕ) × (1 ≤ d) × (d ≤ m) × (ends_at w (driven w f (k + d) s) ≡ true))
      ⊎ (suc m ≤ (driven w f (suc (k + m)) s).2.elapsed)

  ended-or-shows-more-step : (f : ℕ → Levels) (k m : ℕ) (s : TrackedMachine) (b : Bool) → ends_at w (driven w f (suc (k + m)) s) ≡ b → suc m ≤ (driven w f (suc (k + m)) s).2.elapsed →
      (driven w f (suc (k + m)) s).2.elapsed < STOPWATCH_MAX → EndedOrShowsMore f k s (suc m)
  ended-or-shows-more-step f k m s true e shows few =
      let next : k + suc m ≡ suc (k + m) = omega arith in
      inl (suc m, omega arith, omega arith, ap (λ (n : ℕ). ends_at w (driven w f n s)) next ∙ e)
  ended-or-shows-more-step f k m s false e shows few =
      let next : suc (k + m) ≡ k + suc m = omega arith in
      let t = driven w f (suc (k + m)) s in
      inr (subst (λ (n : ℕ). suc (suc m) ≤ (driven w f (suc n) s).2.elapsed) next
      (running-stopwatch-counts-cycle t.2.elapsed (suc m) (begins_at w t) (ends_at w t) (omega arith) few e shows))

  ended-or-shows-more : (limit : ℕ) (s : TrackedMachine) → limit < STOPWATCH_MAX → (f : ℕ → Levels) → ((k : ℕ) → nat_le (driven w f k s).2.elapsed limit ≡ true) → (k : ℕ) → begins_at w (driven w f k s) ≡ true → (m : ℕ) → EndedOrShowsMore f k s m
  ended-or-shows-more limit s few f within k begins zero =
      let t = driven w f k s in
      let here : k ≡ k + zero = omega arith in
      inr (subst (λ (n : ℕ). 1 ≤ (driven w f (suc n) s).2.elapsed) here
      (subst (λ b. 1 ≤ stopwatch_after t.2.elapsed b (ends_at w t)) (sym begins) (stopwatch-positive-after-begin t.2.elapsed (ends_at w t))))
  ended-or-shows-more limit s few f within k begins (suc m) =
      elim (ended-or-shows-more limit s few f within k begins m) [
        | inl ended ↦ inl (ended.0, ended.1, (let less = ended.2 in omega arith), ended.3)
        | inr shows ↦
            let most = leb-true (driven w f (suc (k + m)) s).2.elapsed limit (within (suc (k + m))) in
            ended-or-shows-more-step f k m s (ends_at w (driven w f (suc (k + m)) s)) refl shows (omega arith)
      ]

  pub ends-within : (limits : InputLimits) (limit : ℕ) (s : TrackedMachine) → limit < STOPWATCH_MAX → Holds limits w (λ t. nat_le t.2.elapsed limit) s →
      (f : ℕ → Levels) → AreInputsAllowed limits s.1.board f → (k : ℕ) → begins_at w (driven w f k s) ≡ true →
      (d : ℕ) × (1 ≤ d) × (d ≤ limit) × (ends_at w (driven w f (k + d) s) ≡ true)
  ends-within limits limit s few holds f fit k begins =
      elim (ended-or-shows-more limit s few f (holds f fit) k begins limit) [
        | inl ended ↦ ended
        | inr shows ↦ (let most = leb-true (driven w f (suc (k + limit)) s).2.elapsed limit (holds f fit (suc (k + limit))) in absurd (omega arith))
      ]
