-- The first cycle of an instruction begins the instruction, and the second cycle changes only
-- `owed`.
use Rattle.std.proofs.Common.{◌≡◌, ℕ, suc, zero, ◌+◌, ◌<◌, ◌≤◌, [], ◌++◌, refl, sym, ap, ◌∙◌, arith}
use Rattle.std.proofs.lemmas.List.{append-nil}
use Rattle.mcs_model.specs.Effect.{cycle_of}
use Rattle.mcs_model.specs.Running.{Machine, after_cycles}
use Rattle.mcs_cpu4004.specs.IsInstructionRun.{IsInstructionRun}
use Rattle.mcs_model.proofs.RunLemmas.{after_cycles-add}
use Rattle.mcs_probe.specs.Forecast.{instructions_begun_within}
use Rattle.mcs_trace.proofs.Tallies.{instructions_begun-in_one_more_cycle, instruction_begun_at}

-- the machine with `owed` set to `n`
abbrev pub with_owed : Machine → ℕ → Machine
with_owed s n = (record s.0 { owed = n }, s.1)

second_cycle-clears_owed : (s : Machine) → s.0.owed ≡ 1 → after_cycles 1 s ≡ with_owed s 0
unfolding cycle_of
second_cycle-clears_owed s e = rw e refl

-- the machine after `j` cycles of an instruction, with `j` above 0, differs from the machine after
-- the first of these cycles only in `owed`
only_owed_changes-after_first_cycle : (left d : ℕ) (t u : Machine) → IsInstructionRun left t u d → (j : ℕ) → 0 < j → j ≤ d → after_cycles j t ≡ with_owed (after_cycles 1 t) (after_cycles j t).0.owed
only_owed_changes-after_first_cycle left d t u ran zero some l = absurd (omega arith)
only_owed_changes-after_first_cycle left d t u ran (suc zero) some l = refl
only_owed_changes-after_first_cycle left d t u ran (suc (suc i)) some l =
    let previous_cycle = only_owed_changes-after_first_cycle left d t u ran (suc i) (omega arith) (omega arith) in
    let step : after_cycles (suc (suc i)) t ≡ with_owed (after_cycles 1 t) 0 = second_cycle-clears_owed (after_cycles (suc i) t) (ran.between (suc i) (omega arith) (omega arith)) ∙ ap (λ (m : Machine). with_owed m 0) previous_cycle in
    step ∙ ap (with_owed (after_cycles 1 t)) (sym (ap (λ (m : Machine). m.0.owed) step))

pub only_owed_differs-after_instruction : (left d : ℕ) (t u : Machine) → IsInstructionRun left t u d → 0 < d → u ≡ with_owed (after_cycles 1 t) u.0.owed
only_owed_differs-after_instruction left d t u ran some =
    ran.machine ∙ only_owed_changes-after_first_cycle left d t u ran d some (omega arith) ∙ ap (λ (m : Machine). with_owed (after_cycles 1 t) m.0.owed) (sym ran.machine)

-- one cycle after `k` cycles gives the machine after `k + 1` cycles
pub after_cycles-next : (k : ℕ) (s t : Machine) → t ≡ after_cycles k s → after_cycles 1 t ≡ after_cycles (k + 1) s
after_cycles-next k s t e = ap (after_cycles 1) e ∙ (let suc_is_plus_one : suc k ≡ k + 1 = omega arith in ap (λ j. after_cycles j s) suc_is_plus_one)

no_instruction_begun-if_owed : (k : ℕ) (s : Machine) → (after_cycles k s).0.owed ≡ 1 → instruction_begun_at s k ≡ []
no_instruction_begun-if_owed k s e = rw e refl

-- the first `j` cycles of an instruction begin at most that instruction
instructions_begun-within_instruction : (left k d : ℕ) (s t u : Machine) → t ≡ after_cycles k s → IsInstructionRun left t u d → (j : ℕ) → 0 < j → j ≤ d → instructions_begun_within (k + j) s ≡ instructions_begun_within k s ++ instruction_begun_at s k
instructions_begun-within_instruction left k d s t u at ran zero some l = absurd (omega arith)
instructions_begun-within_instruction left k d s t u at ran (suc zero) some l = instructions_begun-in_one_more_cycle k s
instructions_begun-within_instruction left k d s t u at ran (suc (suc i)) some l =
    let later : k + suc (suc i) ≡ (k + suc i) + 1 = omega arith in
    let owed : (after_cycles (k + suc i) s).0.owed ≡ 1 = ap (λ (m : Machine). m.0.owed) (after_cycles-add k (suc i) s ∙ ap (after_cycles (suc i)) (sym at)) ∙ ran.between (suc i) (omega arith) (omega arith) in
    ap (λ j. instructions_begun_within j s) later ∙ instructions_begun-in_one_more_cycle (k + suc i) s
    ∙ ap (λ l. instructions_begun_within (k + suc i) s ++ l) (no_instruction_begun-if_owed (k + suc i) s owed) ∙ append-nil (instructions_begun_within (k + suc i) s)
    ∙ instructions_begun-within_instruction left k d s t u at ran (suc i) (omega arith) (omega arith)

pub instructions_begun-after_instruction : (left k d : ℕ) (s t u : Machine) → t ≡ after_cycles k s → IsInstructionRun left t u d → 0 < d → instructions_begun_within (k + d) s ≡ instructions_begun_within k s ++ instruction_begun_at s k
instructions_begun-after_instruction left k d s t u at ran some = instructions_begun-within_instruction left k d s t u at ran d some (omega arith)
