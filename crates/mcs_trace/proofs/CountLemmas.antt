-- The counts of a run, updated after each instruction.
use Rattle.std.proofs.Common.{◌≡◌, ℕ, ◌+◌, ◌%◌, ◌<◌, ◌≤◌, ◌&&◌, ◌==◌, not, Bool, true, false, List, ◌++◌, slice_index, replicate, refl, sym, ap, ◌∙◌, subst, arith}
use Rattle.std.specs.List.{count_by}
use Rattle.std.proofs.lemmas.List.{length-replicate, get_or-replicate}
use Rattle.mcs_model.specs.declared.regs.Regs.{Regs}
use Rattle.mcs_model.specs.Running.{Machine, StopConditions, after_cycles}
use Rattle.mcs_cpu4004.specs.IsInstructionRun.{IsInstructionRun}
use Rattle.mcs_bench.specs.Runs.{RunContinuesAt, IsRunResult}
use Rattle.mcs_probe.specs.Forecast.{BegunInstruction, begins, instructions_begun_within, cycle_at, begins_at_address, jumps, jumps_at, runs_at}
use Rattle.mcs_trace.specs.declared.counting.Counts.{Counts}
use Rattle.mcs_trace.specs.RunCounts.{AreCountsOfRun, IsTally, incremented_if}
use Rattle.mcs_trace.proofs.Steps.{instructions_begun-after_instruction, after_cycles-next, only_owed_differs-after_instruction}
use Rattle.mcs_trace.proofs.Tallies.{instruction_begun_at, count_by-in_one_more_cycle, count_by-at_most_cycles, one-when, tally-after_increment}

-- holds if a run of `n` cycles from `s` is at `t` after `k` cycles, and the tallies contain the
-- counts of these `k` cycles
pub record CountedSoFar (stops : StopConditions) (n k : ℕ) (s t : Machine) (runs jumps : List ℕ) : Type 0 where
  pub going : RunContinuesAt stops n k s t
  pub run_tally : IsTally runs (runs_at (instructions_begun_within k s))
  pub jump_tally : IsTally jumps (jumps_at (instructions_begun_within k s))

and-regrouped : (b x y : Bool) → (b && (x && y)) ≡ ((b && y) && x)
and-regrouped true true true = refl
and-regrouped true true false = refl
and-regrouped true false true = refl
and-regrouped true false false = refl
and-regrouped false x y = refl

run_tally-after_increment : (k m : ℕ) (s : Machine) (xs : List ℕ) (b : Bool) (place : ℕ) → place < 4096 → instructions_begun_within m s ≡ instructions_begun_within k s ++ instruction_begun_at s k → b ≡ begins (cycle_at s k) → place ≡ (after_cycles k s).0.pc → IsTally xs (runs_at (instructions_begun_within k s)) → IsTally (incremented_if xs b place) (runs_at (instructions_begun_within m s))
run_tally-after_increment k m s xs b place l on eb ep t =
    tally-after_increment xs b place (runs_at (instructions_begun_within k s)) (runs_at (instructions_begun_within m s)) l t
    (λ at h. rw (eb, ep) (count_by-in_one_more_cycle k m s (begins_at_address at) on))

jump_tally-after_increment : (k m : ℕ) (s : Machine) (xs : List ℕ) (b : Bool) (place : ℕ) → place < 4096 → instructions_begun_within m s ≡ instructions_begun_within k s ++ instruction_begun_at s k → b ≡ (begins (cycle_at s k) && jumps (cycle_at s k)) → place ≡ (after_cycles k s).0.pc → IsTally xs (jumps_at (instructions_begun_within k s)) → IsTally (incremented_if xs b place) (jumps_at (instructions_begun_within m s))
jump_tally-after_increment k m s xs b place l on eb ep t =
    tally-after_increment xs b place (jumps_at (instructions_begun_within k s)) (jumps_at (instructions_begun_within m s)) l t
    (λ at h. rw (eb, ep) (count_by-in_one_more_cycle k m s (λ x. begins_at_address at x && jumps x) on ∙ ap (λ v. jumps_at (instructions_begun_within k s) at + one-when v) (and-regrouped (begins (cycle_at s k)) (begins_at_address at (cycle_at s k)) (jumps (cycle_at s k)))))

pub counts_of_run-if_tallies : (stops : StopConditions) (n : ℕ) (s t : Machine) (k : ℕ) (c : Counts) → IsRunResult stops n s t k c.stop → c.cycles ≡ k → IsTally c.runs.items (runs_at (instructions_begun_within k s)) → IsTally c.jumps.items (jumps_at (instructions_begun_within k s)) → AreCountsOfRun stops n s c
counts_of_run-if_tallies stops n s t k c ran e runs jumps = record {
  cycles = e ∙ ran.cycles;
  stop = ran.stop;
  runs = subst (λ j. IsTally c.runs.items (runs_at (instructions_begun_within j s))) ran.cycles runs;
  jumps = subst (λ j. IsTally c.jumps.items (jumps_at (instructions_begun_within j s))) ran.cycles jumps;
}

-- a list that equals a tally is a tally of the same counts
pub tally-of_equal_list : (s : Machine) (k : ℕ) (xs ys : List ℕ) (p : ℕ → BegunInstruction → Bool) → ys ≡ xs → IsTally xs (λ a. count_by (p a) (instructions_begun_within k s)) → IsTally ys (λ a. count_by (p a) (instructions_begun_within k s))
tally-of_equal_list s k xs ys p e t = subst (λ v. IsTally v (λ a. count_by (p a) (instructions_begun_within k s))) (sym e) t

-- after `k` cycles, each number in a tally is at most `k`
pub tally_number-at_most_cycles : (k : ℕ) (s : Machine) (xs : List ℕ) (p : ℕ → BegunInstruction → Bool) (at : ℕ) → at < 4096 → IsTally xs (λ a. count_by (p a) (instructions_begun_within k s)) → slice_index xs at ≤ k
tally_number-at_most_cycles k s xs p at l t = let e = t.each at l in let f = count_by-at_most_cycles k s (p at) in omega arith

-- before the first cycle, a list of zeros is a tally
pub zeros_are_tally-before_first_cycle : (s : Machine) (p : ℕ → BegunInstruction → Bool) (xs : List ℕ) → xs ≡ replicate 4096 0 → IsTally xs (λ a. count_by (p a) (instructions_begun_within 0 s))
unfolding instructions_begun_within
zeros_are_tally-before_first_cycle s p xs e = rw e (record {
  len = length-replicate {A = ℕ} 4096 0;
  each = λ at h. get_or-replicate {A = ℕ} 4096 at 0 0 h;
})

pub run_tally-after_instruction : (left k d : ℕ) (s t u : Machine) (before : Regs) (xs ys : List ℕ) → t ≡ after_cycles k s → IsInstructionRun left t u d → 0 < d → before ≡ t.0 → before.pc < 4096 → ys ≡ incremented_if xs (before.owed == 0) before.pc → IsTally xs (runs_at (instructions_begun_within k s)) → IsTally ys (runs_at (instructions_begun_within (k + d) s))
run_tally-after_instruction left k d s t u before xs ys at ran some e l new noted =
    let equal_registers : before ≡ (after_cycles k s).0 = e ∙ ap (λ (m : Machine). m.0) at in
    subst (λ v. IsTally v (runs_at (instructions_begun_within (k + d) s))) (sym new)
    (run_tally-after_increment k (k + d) s xs (before.owed == 0) before.pc l (instructions_begun-after_instruction left k d s t u at ran some) (ap (λ (r : Regs). r.owed == 0) equal_registers) (ap (λ (r : Regs). r.pc) equal_registers) noted)

pub jump_tally-after_instruction : (left k d : ℕ) (s t u : Machine) (before after : Regs) (xs ys : List ℕ) → t ≡ after_cycles k s → IsInstructionRun left t u d → 0 < d → before ≡ t.0 → after ≡ u.0 → before.pc < 4096 → ys ≡ incremented_if xs (before.owed == 0 && not (after.pc == (before.pc + 2) % 4096)) before.pc → IsTally xs (jumps_at (instructions_begun_within k s)) → IsTally ys (jumps_at (instructions_begun_within (k + d) s))
jump_tally-after_instruction left k d s t u before after xs ys at ran some e f l new noted =
    let equal_registers : before ≡ (after_cycles k s).0 = e ∙ ap (λ (m : Machine). m.0) at in
    let later : after.pc ≡ (after_cycles (k + 1) s).0.pc = ap (λ (r : Regs). r.pc) f ∙ ap (λ (m : Machine). m.0.pc) (only_owed_differs-after_instruction left d t u ran some) ∙ ap (λ (m : Machine). m.0.pc) (after_cycles-next k s t at) in
    subst (λ v. IsTally v (jumps_at (instructions_begun_within (k + d) s))) (sym new)
    (jump_tally-after_increment k (k + d) s xs (before.owed == 0 && not (after.pc == (before.pc + 2) % 4096)) before.pc l (instructions_begun-after_instruction left k d s t u at ran some)
    (ap (λ (r : Regs). r.owed == 0 && not (after.pc == (r.pc + 2) % 4096)) equal_registers ∙ ap (λ (p : ℕ). (after_cycles k s).0.owed == 0 && not (p == ((after_cycles k s).0.pc + 2) % 4096)) later)
    (ap (λ (r : Regs). r.pc) equal_registers) noted)
