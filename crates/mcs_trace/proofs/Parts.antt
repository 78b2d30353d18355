-- If nothing stops a run of `m + n` cycles early, runs of `m` and then `n` cycles begin the same
-- instructions.
use Rattle.std.proofs.Common.{◌≡◌, ℕ, zero, suc, ◌+◌, ◌-◌, ◌<◌, ◌≤◌, Bool, true, false, cond, Option, Some, None, is_some, unwrap_or, List, [], ◌∷◌, ◌++◌, map, find, inl, inr, refl, sym, ap, ◌∙◌, subst, arith, eqb, eq-eqb, append_assoc}
use Rattle.std.specs.List.{range_with_len}
use Rattle.std.proofs.lemmas.Bool.{cases_eq}
use Rattle.std.proofs.lemmas.List.{append-nil, map-append}
use Rattle.mcs_model.specs.declared.stop.Stop.{Stop}
use Rattle.mcs_model.specs.declared.stop.Stop.TheVariants.{Outside, Breakpoint, Watched, Ended}
use Rattle.mcs_model.specs.Running.{Machine, StopConditions, is_outside_table, after_cycles, after_run, at_break, has_changed, stop_reason_at, stop_reason_after, run_length}
use Rattle.mcs_model.proofs.ListLemmas.{find_at}
use Rattle.mcs_model.proofs.RunLemmas.{after_cycles-add}
use Rattle.mcs_probe.specs.Forecast.{BegunInstruction, begins, instructions_begun_in, instructions_begun_within, cycle_at, early_stop_reason, with_earlier_start}
use Rattle.mcs_trace.proofs.RunContinues.{stop_reason-before_last_cycle, no_stop_reason-at_start}
use Rattle.mcs_trace.proofs.Tallies.{instructions_begun-in_one_more_cycle, instruction_begun_at}

-- ---- the instructions that a run begins

abbrev begun_instruction : ℕ → Machine → Machine → BegunInstruction
begun_instruction k s t = record { cycles = k; before = s; after = t }

-- cycle `m + n` of the run from `s` is cycle `n` of the run that starts `m` cycles later
cycle_at-from_later_start : (m n : ℕ) (s : Machine) → cycle_at s (m + n) ≡ with_earlier_start m (cycle_at (after_cycles m s) n)
cycle_at-from_later_start m n s =
    let next : m + n + 1 ≡ m + (n + 1) = omega arith in
    ap (λ (t : Machine). begun_instruction (m + n) t (after_cycles (m + n + 1) s)) (after_cycles-add m n s)
    ∙ ap (λ (t : Machine). begun_instruction (m + n) (after_cycles n (after_cycles m s)) t) (ap (λ j. after_cycles j s) next ∙ after_cycles-add m (n + 1) s)

map_with_earlier_start-of_optional_instruction : (m : ℕ) (b : Bool) (x : BegunInstruction) → cond b (with_earlier_start m x ∷ []) [] ≡ map (with_earlier_start m) (cond b (x ∷ []) [])
map_with_earlier_start-of_optional_instruction m true x = refl
map_with_earlier_start-of_optional_instruction m false x = refl

instruction_begun_at-from_later_start : (m n : ℕ) (s : Machine) → instruction_begun_at s (m + n) ≡ map (with_earlier_start m) (instruction_begun_at (after_cycles m s) n)
instruction_begun_at-from_later_start m n s =
    ap (λ (x : BegunInstruction). cond (begins x) (x ∷ []) []) (cycle_at-from_later_start m n s)
    ∙ map_with_earlier_start-of_optional_instruction m (begins (cycle_at (after_cycles m s) n)) (cycle_at (after_cycles m s) n)

no_instruction_begun-within_0_cycles : (m : ℕ) (s : Machine) → instructions_begun_within 0 s ≡ []
unfolding instructions_begun_within
no_instruction_begun-within_0_cycles m s = refl

pub instructions_begun_within-sum : (m n : ℕ) (s : Machine) → instructions_begun_within (m + n) s ≡ instructions_begun_within m s ++ map (with_earlier_start m) (instructions_begun_within n (after_cycles m s))
instructions_begun_within-sum m zero s =
    let plus_zero : m + 0 ≡ m = omega arith in
    ap (λ k. instructions_begun_within k s) plus_zero ∙ sym (append-nil (instructions_begun_within m s)) ∙ ap (λ (l : List BegunInstruction). instructions_begun_within m s ++ map (with_earlier_start m) l) (sym (no_instruction_begun-within_0_cycles m (after_cycles m s)))
instructions_begun_within-sum m (suc n) s =
    let plus_one_after_sum : m + suc n ≡ m + n + 1 = omega arith in
    let suc_is_plus_one : suc n ≡ n + 1 = omega arith in
    let t = after_cycles m s in
    let first = instructions_begun_within m s in
    let second = map (with_earlier_start m) (instructions_begun_within n t) in
    ap (λ k. instructions_begun_within k s) plus_one_after_sum ∙ instructions_begun-in_one_more_cycle (m + n) s
    ∙ ap (λ (l : List BegunInstruction). l ++ instruction_begun_at s (m + n)) (instructions_begun_within-sum m n s)
    ∙ ap (λ (l : List BegunInstruction). (first ++ second) ++ l) (instruction_begun_at-from_later_start m n s)
    ∙ append_assoc first second (map (with_earlier_start m) (instruction_begun_at t n))
    ∙ ap (λ (l : List BegunInstruction). first ++ l) (sym (map-append (with_earlier_start m) (instructions_begun_within n t) (instruction_begun_at t n)) ∙ ap (map (with_earlier_start m)) (sym (instructions_begun-in_one_more_cycle n t) ∙ ap (λ k. instructions_begun_within k t) (sym suc_is_plus_one)))

-- ---- the lengths of the two parts

-- in a range, `p` is false for each number below the first number that satisfies `p`
false-before_first_found : (p : ℕ → Bool) (a k d j : ℕ) → a ≤ j → j < a + k → j < unwrap_or (find p (range_with_len a k)) d → p j ≡ false
false-before_first_found p a zero d j l h e = absurd (omega arith)
false-before_first_found p a (suc k) d j l h e =
    elim (p a) as (λ v. p a ≡ v → j < unwrap_or (cond v (Some a) (find p (range_with_len (a + 1) k))) d → p j ≡ false) [
      | true ↦ λ t less. absurd (omega arith)
      | false ↦ λ f less. elim (cases_eq a j) [
        | inl same ↦ ap p (sym same) ∙ f
        | inr ne ↦ false-before_first_found p (a + 1) k d j (omega arith) (omega arith) less
      ]
    ] refl e

none-if_not_some : (o : Option Stop) → is_some o ≡ false → o ≡ None
none-if_not_some None e = refl
none-if_not_some (Some why) e = absurd (cc)

-- if a run of at most `n` cycles executes `n` cycles, nothing stops the run before cycle `n`
no_stop_reason-before_end : (stops : StopConditions) (n : ℕ) (s : Machine) → run_length stops n s ≡ n → (j : ℕ) → j < n → stop_reason_after stops n s j ≡ None
no_stop_reason-before_end stops n s e j l =
    none-if_not_some (stop_reason_after stops n s j) (false-before_first_found (λ k. is_some (stop_reason_after stops n s k)) 0 (n + 1) n j (omega arith) (omega arith) (subst (λ k. j < k) (sym e) l))

not_outside-if_no_stop_reason : (outside at_breakpoint changed ended : Bool) → cond outside (Some Outside) (cond at_breakpoint (Some Breakpoint) (cond changed (Some Watched) (cond ended (Some Ended) None))) ≡ None → outside ≡ false
not_outside-if_no_stop_reason true at_breakpoint changed ended e = absurd (cc)
not_outside-if_no_stop_reason false at_breakpoint changed ended e = refl

-- if a run has no reason to stop when it reaches a machine, this machine can execute a cycle
inside_table-if_no_stop_reason : (stops : StopConditions) (n k : ℕ) (s t : Machine) → stop_reason_at stops n k s t ≡ None → is_outside_table t ≡ false
inside_table-if_no_stop_reason stops n k s t e = not_outside-if_no_stop_reason (is_outside_table t) (at_break stops.breaks k t) (has_changed stops.watches s t) (eqb k n) e

some_stop_reason-if_ended : (out at_breakpoint changed ended : Bool) → ended ≡ true → is_some (cond out (Some Outside) (cond at_breakpoint (Some Breakpoint) (cond changed (Some Watched) (cond ended (Some Ended) None)))) ≡ true
some_stop_reason-if_ended true at_breakpoint changed ended e = refl
some_stop_reason-if_ended false true changed ended e = refl
some_stop_reason-if_ended false false true ended e = refl
some_stop_reason-if_ended false false false true e = refl
some_stop_reason-if_ended false false false false e = absurd (cc)

-- holds if nothing stops a run of at most `n` cycles from `s` before it has executed `n` cycles
record IsUninterrupted (stops : StopConditions) (n : ℕ) (s : Machine) : Type 0 where
  pub inside : 0 < n → is_outside_table s ≡ false
  pub early : (j : ℕ) → 0 < j → j < n → early_stop_reason stops (after_cycles (j - 1) s) (after_cycles j s) ≡ None

uninterrupted-if_run_length_full : (stops : StopConditions) (n : ℕ) (s : Machine) → run_length stops n s ≡ n → IsUninterrupted stops n s
uninterrupted-if_run_length_full stops n s e = record {
  inside = λ l. inside_table-if_no_stop_reason stops n 0 (after_cycles (0 - 1) s) (after_cycles 0 s) (no_stop_reason-before_end stops n s e 0 l);
  early = λ j some l. sym (stop_reason-before_last_cycle stops n j (after_cycles (j - 1) s) (after_cycles j s) some l) ∙ no_stop_reason-before_end stops n s e j l;
}

no_stop_reason-if_uninterrupted : (stops : StopConditions) (n : ℕ) (s : Machine) → IsUninterrupted stops n s → (j : ℕ) → j < n → stop_reason_after stops n s j ≡ None
no_stop_reason-if_uninterrupted stops n s w j l =
    elim (cases_eq j 0) [
      | inl e ↦ subst (λ i. stop_reason_after stops n s i ≡ None) (sym e) (no_stop_reason-at_start stops n s (omega arith) (w.inside (omega arith)))
      | inr ne ↦ stop_reason-before_last_cycle stops n j (after_cycles (j - 1) s) (after_cycles j s) (omega arith) l ∙ w.early j (omega arith) l
    ]

-- if nothing stops a run of `n` cycles early, the run executes `n` cycles
full_run_length-if_uninterrupted : (stops : StopConditions) (n : ℕ) (s : Machine) → IsUninterrupted stops n s → run_length stops n s ≡ n
full_run_length-if_uninterrupted stops n s w =
    let end : is_some (stop_reason_after stops n s n) ≡ true = some_stop_reason-if_ended (is_outside_table (after_cycles n s)) (at_break stops.breaks n (after_cycles n s)) (has_changed stops.watches (after_cycles (n - 1) s) (after_cycles n s)) (eqb n n) (eq-eqb n n refl) in
    ap (λ o. unwrap_or o n) (find_at (λ k. is_some (stop_reason_after stops n s k)) 0 (n + 1) n (omega arith) (omega arith) (λ j l. ap is_some (no_stop_reason-if_uninterrupted stops n s w j l)) end)

-- if nothing stops a run of `m + n` cycles early, nothing stops a run of `m` cycles early
first_part-uninterrupted : (stops : StopConditions) (m n : ℕ) (s : Machine) → IsUninterrupted stops (m + n) s → IsUninterrupted stops m s
first_part-uninterrupted stops m n s w = record {
  inside = λ l. w.inside (omega arith);
  early = λ j some l. w.early j some (omega arith);
}

-- Suppose that a run of at most `m + n` cycles from `s` executes `m + n` cycles. A run of `n`
-- cycles from the machine after the first `m` cycles is then not stopped early (`IsUninterrupted`).
second_part-uninterrupted : (stops : StopConditions) (m n : ℕ) (s : Machine) → run_length stops (m + n) s ≡ m + n → IsUninterrupted stops n (after_cycles m s)
second_part-uninterrupted stops m n s e = record {
  inside = λ l. inside_table-if_no_stop_reason stops (m + n) m (after_cycles (m - 1) s) (after_cycles m s) (no_stop_reason-before_end stops (m + n) s e m (omega arith));
  early = λ j some l.
      let sum_before : m + j - 1 ≡ m + (j - 1) = omega arith in
      let w = uninterrupted-if_run_length_full stops (m + n) s e in
      ap (λ (t : Machine). early_stop_reason stops t (after_cycles j (after_cycles m s))) (sym (ap (λ i. after_cycles i s) sum_before ∙ after_cycles-add m (j - 1) s))
      ∙ ap (λ (t : Machine). early_stop_reason stops (after_cycles (m + j - 1) s) t) (sym (after_cycles-add m j s))
      ∙ w.early (m + j) (omega arith) (omega arith);
}

pub begun_instructions-add_up : (stops : StopConditions) (m n : ℕ) (s : Machine) → run_length stops (m + n) s ≡ m + n → instructions_begun_in stops (m + n) s ≡ instructions_begun_in stops m s ++ map (with_earlier_start m) (instructions_begun_in stops n (after_run stops m s))
begun_instructions-add_up stops m n s e =
    let first : run_length stops m s ≡ m = full_run_length-if_uninterrupted stops m s (first_part-uninterrupted stops m n s (uninterrupted-if_run_length_full stops (m + n) s e)) in
    let first_part_end : after_run stops m s ≡ after_cycles m s = ap (λ k. after_cycles k s) first in
    let second : run_length stops n (after_cycles m s) ≡ n = full_run_length-if_uninterrupted stops n (after_cycles m s) (second_part-uninterrupted stops m n s e) in
    ap (λ k. instructions_begun_within k s) e ∙ instructions_begun_within-sum m n s
    ∙ ap (λ k. instructions_begun_within k s ++ map (with_earlier_start m) (instructions_begun_within n (after_cycles m s))) (sym first)
    ∙ ap (λ k. instructions_begun_in stops m s ++ map (with_earlier_start m) (instructions_begun_within k (after_cycles m s))) (sym second)
    ∙ ap (λ (t : Machine). instructions_begun_in stops m s ++ map (with_earlier_start m) (instructions_begun_in stops n t)) (sym first_part_end)
