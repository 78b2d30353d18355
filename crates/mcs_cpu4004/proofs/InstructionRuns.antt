-- Runs of zero, one or two cycles of one instruction.
use Rattle.std.proofs.Common.{◌≡◌, ◌≢◌, ℕ, ◌-◌, ◌<◌, ◌≤◌, subst, true, false, Some, is_none, unwrap_or, inl, inr, refl, sym, ap, ◌∙◌, arith, eqb}
use Rattle.std.proofs.lemmas.Bool.{cases_eq}
use Rattle.std.proofs.lemmas.Bool.Decides.{nat_tests}
use Rattle.mcs_model.specs.declared.regs.Regs.{Regs}
use Rattle.mcs_model.specs.declared.op.Op.{Op}
use Rattle.mcs_model.specs.Bus.{BusState}
use Rattle.mcs_model.specs.Effect.{cycle_of, effect, instruction_at}
use Rattle.mcs_model.specs.Running.{Machine, is_outside_table, after_cycles}
use Rattle.mcs_model.proofs.RunLemmas.{next}
use Rattle.mcs_cpu4004.specs.IsInstructionRun.{IsInstructionRun}

-- if `cycle_of` returns `Some t` for the machine `s`, a cycle is possible (`is_outside_table` is
-- false), and `t` is the machine after this cycle
pub machine_after_possible_cycle : (s t : Machine) → cycle_of s.0 s.1 ≡ Some t → (is_outside_table s ≡ false) × (t ≡ next s)
machine_after_possible_cycle s t e = (ap is_none e, sym (ap (λ o. unwrap_or o s) e))

-- if no cycle is possible, a run of one instruction has 0 cycles
pub instruction_run-of_no_cycle : (left : ℕ) (s : Machine) → is_outside_table s ≡ true → IsInstructionRun left s s 0
instruction_run-of_no_cycle left s out = record {
  within = omega arith;
  machine = refl;
  none = λ _. out;
  inside = λ j l. absurd (omega arith);
  between = λ j h l. absurd (omega arith);
}

-- if a cycle leads from `s` to `t`, this cycle alone is a run of one instruction
pub instruction_run-of_one_cycle : (left : ℕ) (s t : Machine) → 0 < left → cycle_of s.0 s.1 ≡ Some t → IsInstructionRun left s t 1
instruction_run-of_one_cycle left s t l e = record {
  within = omega arith;
  machine = (machine_after_possible_cycle s t e).1;
  none = λ z. absurd (omega arith);
  inside = λ j h. subst (λ i. is_outside_table (after_cycles i s) ≡ false) (let z : 0 ≡ j = omega arith in z) (machine_after_possible_cycle s t e).0;
  between = λ j h k. absurd (omega arith);
}

-- if a cycle from `s` leaves a second cycle pending, both cycles together are a run of one
-- instruction
pub instruction_run-of_two_cycles : (left : ℕ) (s t u : Machine) → 1 < left → cycle_of s.0 s.1 ≡ Some t → t.0.owed ≡ 1 → cycle_of t.0 t.1 ≡ Some u → IsInstructionRun left s u 2
instruction_run-of_two_cycles left s t u l e owed f =
    let new = (machine_after_possible_cycle s t e).1 in
    record {
      within = omega arith;
      machine = (machine_after_possible_cycle t u f).1 ∙ ap next new;
      none = λ z. absurd (omega arith);
      inside = λ j h. elim (cases_eq j 0) [
        | inl z ↦ subst (λ i. is_outside_table (after_cycles i s) ≡ false) (sym z) (machine_after_possible_cycle s t e).0
        | inr nz ↦ subst (λ i. is_outside_table (after_cycles i s) ≡ false) (let z : 1 ≡ j = omega arith in z) (subst (λ (v : Machine). is_outside_table v ≡ false) new (machine_after_possible_cycle t u f).0)
      ];
      between = λ j h k. subst (λ i. (after_cycles i s).0.owed ≡ 1) (let z : 1 ≡ j = omega arith in z) (subst (λ (v : Machine). v.0.owed ≡ 1) new owed);
    }

-- if no second cycle is pending, one cycle has the effect of the instruction at the program counter
cycle-executes_instruction : (op : Op) (s : Machine) → s.0.owed ≢ 1 → instruction_at s.0 s.1 ≡ Some op → cycle_of s.0 s.1 ≡ Some (effect op s.0 s.1)
unfolding cycle_of
cycle-executes_instruction op s free at = let e : eqb s.0.owed 1 ≡ false = grind (arith, nat_tests) in rw (e, at) refl

-- a pending second cycle changes only `owed`
second_cycle-clears_owed : (s : Regs) (m : BusState) → cycle_of (record s { owed = 1 }) m ≡ Some (record s { owed = 0 }, m)
unfolding cycle_of
second_cycle-clears_owed s m = refl

-- if a second cycle is pending, this cycle alone is a run of one instruction
pub instruction_run-of_second_cycle : (left : ℕ) (s : Regs) (m : BusState) (counter : ℕ) → 0 < left → s.owed ≡ 1 → counter ≡ s.pc → IsInstructionRun left (s, m) (record s { pc = counter; owed = 0 }, m) 1
instruction_run-of_second_cycle left s m counter l owed same =
    let begun : s ≡ record s { owed = 1 } = ap (λ o. record s { owed = o }) owed in
    let there : (record s { owed = 0 }, m) ≡ (record s { pc = counter; owed = 0 }, m) = ap (λ p. (record s { pc = p; owed = 0 }, m)) (sym same) in
    instruction_run-of_one_cycle left (s, m) (record s { pc = counter; owed = 0 }, m) l (ap (λ (r : Regs). cycle_of r m) begun ∙ second_cycle-clears_owed s m ∙ ap Some there)

-- If no second cycle is pending, all cycles of the instruction at the program counter together are
-- a run of one instruction. No second cycle is pending after the run. `regs`, with the program
-- counter set to `counter`, are the registers after the run, and `m` is the bus after the run.
pub instruction_run-of_all_cycles : (left : ℕ) (op : Op) (s : Machine) (regs : Regs) (m : BusState) (counter cycles : ℕ) → cycles ≤ left → s.0.owed ≢ 1 → instruction_at s.0 s.1 ≡ Some op → (record regs { pc = counter; owed = cycles - 1 }, m) ≡ effect op s.0 s.1 → 0 < cycles → cycles < 3 → regs.owed ≡ 0 → IsInstructionRun left s (record regs { pc = counter }, m) cycles
instruction_run-of_all_cycles left op s regs m counter cycles l free at done some few none =
    let t : Machine = (record regs { pc = counter; owed = cycles - 1 }, m) in
    let u : Machine = (record regs { pc = counter }, m) in
    let step : cycle_of s.0 s.1 ≡ Some t = cycle-executes_instruction op s free at ∙ ap Some (sym done) in
    elim (cases_eq cycles 1) [
      | inl one ↦ (
          let same : t ≡ u = ap (λ o. (record regs { pc = counter; owed = o }, m)) (let e : cycles - 1 ≡ regs.owed = omega arith in e) in
          subst (IsInstructionRun left s u) (sym one) (instruction_run-of_one_cycle left s u (omega arith) (step ∙ ap Some same)))
      | inr more ↦ (
          let two : cycles ≡ 2 = omega arith in
          let pending : t ≡ (record regs { pc = counter; owed = 1 }, m) = ap (λ o. (record regs { pc = counter; owed = o }, m)) (let e : cycles - 1 ≡ 1 = omega arith in e) in
          let same : (record regs { pc = counter; owed = 0 }, m) ≡ u = ap (λ o. (record regs { pc = counter; owed = o }, m)) (sym none) in
          subst (IsInstructionRun left s u) (sym two) (instruction_run-of_two_cycles left s (record regs { pc = counter; owed = 1 }, m) u (omega arith) (step ∙ ap Some pending) refl (second_cycle-clears_owed (record regs { pc = counter }) m ∙ ap Some same)))
    ]
