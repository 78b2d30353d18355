-- Without breakpoints and watches, a run of at most `n` cycles reaches the machine after `n` cycles
-- (`after_cycles`).
use Rattle.std.proofs.Common.{◌≡◌, ℕ, ◌+◌, ◌-◌, ◌<◌, zero, suc, Bool, true, false, cond, [], Option, Some, None, is_some, is_none, unwrap_or, ◌⊎◌, inl, inr, refl, sym, ap, ◌∙◌, arith, find, eqb}
use Rattle.std.specs.List.{range_with_len}
use Rattle.std.proofs.Math.Nat.{add-suc}
use Rattle.std.proofs.lemmas.Bool.{eqb-true}
use Rattle.std.proofs.Math.Bool.{and-false}
use Rattle.mcs_model.specs.declared.regs.Regs.{Regs}
use Rattle.mcs_model.specs.declared.stop.Stop.TheVariants.{Outside, Breakpoint, Ended}
use Rattle.mcs_model.specs.Bus.{BusState}
use Rattle.mcs_model.specs.Effect.{cycle_of}
use Rattle.mcs_model.specs.Running.{Machine, is_outside_table, after_cycles, at_break, stop_reason_after, after_run}
use Rattle.mcs_model.specs.Laws.{no_stops}

-- the machine after one cycle
abbrev pub next : Machine → Machine
next s = unwrap_or (cycle_of s.0 s.1) s

unwrap_or-none : (o : Option (Regs × BusState)) (s : Machine) → is_none o ≡ true → unwrap_or o s ≡ s
unwrap_or-none None s _ = refl
unwrap_or-none (Some t) s e = cc

-- a machine does not change if no cycle is possible
after_cycles-outside : (k : ℕ) (s : Machine) → is_outside_table s ≡ true → after_cycles k s ≡ s
after_cycles-outside zero s h = refl
after_cycles-outside (suc k) s h = ap next (after_cycles-outside k s h) ∙ unwrap_or-none (cycle_of s.0 s.1) s h

pub after_cycles-add : (a b : ℕ) (s : Machine) → after_cycles (a + b) s ≡ after_cycles b (after_cycles a s)
after_cycles-add a zero s = ap (λ n. after_cycles n s) (omega arith)
after_cycles-add a (suc b) s = ap (λ n. after_cycles n s) (add-suc a b) ∙ ap next (after_cycles-add a b s)

-- `Q` holds for the number that `find` gives, or for the default `d` if `find` gives none. This
-- requires that `Q` holds for `d`, and for each number below `a + n` that satisfies `p`.
property_of_find_result : (p : ℕ → Bool) (Q : ℕ → Type 0) (d : ℕ) → Q d → (a n : ℕ) → ((k : ℕ) → k < a + n → p k ≡ true → Q k) → Q (unwrap_or (find p (range_with_len a n)) d)
property_of_find_result p Q d holds a zero h = holds
property_of_find_result p Q d holds a (suc n) h =
    elim (p a) as (λ v. p a ≡ v → Q (unwrap_or (cond v (Some a) (find p (range_with_len (a + 1) n))) d)) [
      | true ↦ λ e. h a (omega arith) e
      | false ↦ λ _. property_of_find_result p Q d holds (a + 1) n (λ k l e. h k (omega arith) e)
    ] refl

outside_or_ended-without_breakpoint : (v b w : Bool) → b ≡ false → is_some (cond v (Some Outside) (cond b (Some Breakpoint) (cond w (Some Ended) None))) ≡ true → (v ≡ true) ⊎ (w ≡ true)
outside_or_ended-without_breakpoint true b w f e = inl refl
outside_or_ended-without_breakpoint false true w f e = cc
outside_or_ended-without_breakpoint false false true f e = inr refl
outside_or_ended-without_breakpoint false false false f e = cc

-- without breakpoints and watches, a run stops only if no cycle is possible, or at its end
outside_or_ended-if_stopped : (n k : ℕ) (s : Machine) → is_some (stop_reason_after no_stops n s k) ≡ true → (is_outside_table (after_cycles k s) ≡ true) ⊎ (eqb k n ≡ true)
outside_or_ended-if_stopped n k s e = outside_or_ended-without_breakpoint (is_outside_table (after_cycles k s)) (at_break [] k (after_cycles k s)) (eqb k n) (and-false _) e

pub after_run-without_stops : (n : ℕ) (s : Machine) → after_run no_stops n s ≡ after_cycles n s
after_run-without_stops n s =
    property_of_find_result (λ k. is_some (stop_reason_after no_stops n s k)) (λ k. after_cycles k s ≡ after_cycles n s) n refl 0 (n + 1)
    (λ k l e.
    elim (outside_or_ended-if_stopped n k s e) [
      | inl outside ↦ sym (ap (λ m. after_cycles m s) (let same : n ≡ k + (n - k) = omega arith in same) ∙ after_cycles-add k (n - k) s ∙ after_cycles-outside (n - k) (after_cycles k s) outside)
      | inr ended ↦ ap (λ m. after_cycles m s) (eqb-true k n ended)
    ])

-- without breakpoints and watches, two consecutive runs reach the same machine as one run of all
-- their cycles
pub after_run-after_run : (a b : ℕ) (s : Machine) → after_run no_stops b (after_run no_stops a s) ≡ after_run no_stops (a + b) s
after_run-after_run a b s =
    after_run-without_stops b (after_run no_stops a s) ∙ ap (after_cycles b) (after_run-without_stops a s) ∙ sym (after_cycles-add a b s) ∙ sym (after_run-without_stops (a + b) s)
