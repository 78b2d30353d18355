use Rattle.std.proofs.Common.{◌≡◌, ◌∙◌, ◌+◌, ◌-◌, ℕ, ◌&&◌, None, sym, ap, subst, arith}
use Rattle.mcs_model.specs.BenchState.{BenchState}
use Rattle.mcs_model.specs.Command.{machine_of, stops_of}
use Rattle.mcs_model.specs.Running.{Machine, StopConditions}
use Rattle.mcs_bench.specs.declared.running.InstructionResult.{InstructionResult}
use Rattle.mcs_bench.specs.Runs.{RunContinuesAt, IsInstructionResult, stop_reason}
use Rattle.mcs_bench.proofs.Runs.{run-continues-at-start, run-result-of-stopped-run, run-stops-when-cycles-done, run-stops-if-no-cycle-possible, run-continues-after-instruction-result, run-stops-after-instruction-result}
use Rattle.mcs_probe.specs.Forecast.{begins_at_address, jumps}
use Rattle.mcs_trace.proofs.CountLemmas.{counts_of_run-if_tallies, tally-of_equal_list, tally_number-at_most_cycles, zeros_are_tally-before_first_cycle, run_tally-after_instruction, jump_tally-after_instruction}
use Rattle.mcs_trace.proofs.counting.count_run.Goals as goal

pub loop-done-init : goal.loop-done-init
loop-done-init c =
    let b = c.args.bench.now in
    let s : Machine = machine_of b in
    record {
      counting = record {
        going = subst (λ (x : BenchState). RunContinuesAt (stops_of b) c.args.n 0 s (machine_of x)) (sym c.in_ok-copy.ensures) (run-continues-at-start (stops_of b) c.args.n s);
        run_tally = zeros_are_tally-before_first_cycle s (λ a. begins_at_address a) _ c.in_ok-runs.ensures;
        jump_tally = zeros_are_tally-before_first_cycle s (λ a x. begins_at_address a x && jumps x) _ c.in_ok-jumps.ensures;
      };
      stops = ap stops_of c.in_ok-copy.ensures;
    }

pub count_instruction-requires-clause-runs_below_max : goal.count_instruction-requires-clause-runs_below_max
count_instruction-requires-clause-runs_below_max c =
    let count_at_most_cycles = tally_number-at_most_cycles c.loop-done.done (machine_of c.args.bench.now) c.loop-done.runs.items (λ a. begins_at_address a) c.regs-before.result.pc (omega arith) c.loop-done.invariant.counting.run_tally in
    omega arith

pub count_instruction-requires-clause-jumps_below_max : goal.count_instruction-requires-clause-jumps_below_max
count_instruction-requires-clause-jumps_below_max c =
    let count_at_most_cycles = tally_number-at_most_cycles c.loop-done.done (machine_of c.args.bench.now) c.loop-done.jumps.items (λ a x. begins_at_address a x && jumps x) c.regs-before.result.pc (omega arith) c.loop-done.invariant.counting.jump_tally in
    omega arith

pub returns-in-None : goal.returns-in-None
returns-in-None c =
    let b = c.args.bench.now in
    let s : Machine = machine_of b in
    let k : ℕ = c.loop-done.done in
    let t : Machine = machine_of c.loop-done.copy in
    let counting = c.loop-done.invariant.counting in
    let run_result = c.in-None.ensures.executed in
    let counts = c.counts_of in
    let stop = counts.ensures.stop ∙ ap (λ (x : BenchState). stop_reason (machine_of x) None) run_result.1 in
    counts_of_run-if_tallies (stops_of b) c.args.n s t k counts.result (run-result-of-stopped-run (stops_of b) c.args.n k s t None counts.result.stop (run-stops-if-no-cycle-possible (stops_of b) c.args.n k s t counting.going run_result.0) stop) counts.ensures.cycles
    (tally-of_equal_list s k _ _ (λ a. begins_at_address a) counts.ensures.runs counting.run_tally) (tally-of_equal_list s k _ _ (λ a x. begins_at_address a x && jumps x) counts.ensures.jumps counting.jump_tally)

pub returns-in-Some-mark : goal.returns-in-Some-mark
returns-in-Some-mark c =
    let b = c.args.bench.now in
    let s : Machine = machine_of b in
    let n : ℕ = c.args.n in
    let k : ℕ = c.loop-done.done in
    let t : Machine = machine_of c.loop-done.copy in
    let u : Machine = machine_of c.continue_run.new.self in
    let w : InstructionResult = c.in-Some.executed in
    let counting = c.loop-done.invariant.counting in
    let instruction_result : IsInstructionResult (stops_of b) (n - k) t u w = subst (λ (x : StopConditions). IsInstructionResult x (n - k) t u w) c.loop-done.invariant.stops c.in-Some.ensures.executed in
    let run_stops = run-stops-after-instruction-result (stops_of b) n k s t u w c.in-Some-mark.why counting.going instruction_result c.loop-done-test.true c.in-Some-mark.is in
    let counts = c.counts_of-in-Some-mark in
    counts_of_run-if_tallies (stops_of b) n s u (k + w.cycles) counts.result (run-result-of-stopped-run (stops_of b) n (k + w.cycles) s u w.mark counts.result.stop run_stops (counts.ensures.stop ∙ ap (stop_reason u) (sym c.in-Some-mark.is))) counts.ensures.cycles
    (tally-of_equal_list s (k + w.cycles) _ _ (λ a. begins_at_address a) counts.ensures.runs (run_tally-after_instruction (n - k) k w.cycles s t u c.regs-before.result c.loop-done.runs.items c.count_instruction.new.runs.items counting.going.at instruction_result.ran instruction_result.some c.regs-before.ensures.same (omega arith) c.count_instruction.ensures.runs counting.run_tally))
    (tally-of_equal_list s (k + w.cycles) _ _ (λ a x. begins_at_address a x && jumps x) counts.ensures.jumps (jump_tally-after_instruction (n - k) k w.cycles s t u c.regs-before.result c.regs.result c.loop-done.jumps.items c.count_instruction.new.jumps.items counting.going.at instruction_result.ran instruction_result.some c.regs-before.ensures.same c.regs.ensures.same (omega arith) c.count_instruction.ensures.jumps counting.jump_tally))

pub loop-done-preserved : goal.loop-done-preserved
loop-done-preserved c =
    let b = c.args.bench.now in
    let s : Machine = machine_of b in
    let n : ℕ = c.args.n in
    let k : ℕ = c.loop-done.done in
    let t : Machine = machine_of c.loop-done.copy in
    let u : Machine = machine_of c.continue_run.new.self in
    let w : InstructionResult = c.in-Some.executed in
    let counting = c.loop-done.invariant.counting in
    let instruction_result : IsInstructionResult (stops_of b) (n - k) t u w = subst (λ (x : StopConditions). IsInstructionResult x (n - k) t u w) c.loop-done.invariant.stops c.in-Some.ensures.executed in
    record {
      counting = record {
        going = run-continues-after-instruction-result (stops_of b) n k s t u w counting.going instruction_result c.loop-done-test.true c.in_default.is;
        run_tally = run_tally-after_instruction (n - k) k w.cycles s t u c.regs-before.result c.loop-done.runs.items c.count_instruction.new.runs.items counting.going.at instruction_result.ran instruction_result.some c.regs-before.ensures.same (omega arith) c.count_instruction.ensures.runs counting.run_tally;
        jump_tally = jump_tally-after_instruction (n - k) k w.cycles s t u c.regs-before.result c.regs.result c.loop-done.jumps.items c.count_instruction.new.jumps.items counting.going.at instruction_result.ran instruction_result.some c.regs-before.ensures.same c.regs.ensures.same (omega arith) c.count_instruction.ensures.jumps counting.jump_tally;
      };
      stops = ap stops_of c.continue_run.ensures.rest ∙ c.loop-done.invariant.stops;
    }

pub returns : goal.returns
returns c =
    let b = c.args.bench.now in
    let s : Machine = machine_of b in
    let n : ℕ = c.args.n in
    let k : ℕ = c.loop-done.done in
    let t : Machine = machine_of c.loop-done.copy in
    let counting = c.loop-done.invariant.counting in
    let within = counting.going.within in
    let all_cycles_done : n ≡ k = omega arith in
    let counts = c.counts_of-2 in
    counts_of_run-if_tallies (stops_of b) n s t k counts.result (run-result-of-stopped-run (stops_of b) n k s t None counts.result.stop (run-stops-when-cycles-done (stops_of b) n k s t counting.going (sym all_cycles_done)) counts.ensures.stop) (counts.ensures.cycles ∙ all_cycles_done)
    (tally-of_equal_list s k _ _ (λ a. begins_at_address a) counts.ensures.runs counting.run_tally) (tally-of_equal_list s k _ _ (λ a x. begins_at_address a x && jumps x) counts.ensures.jumps counting.jump_tally)
