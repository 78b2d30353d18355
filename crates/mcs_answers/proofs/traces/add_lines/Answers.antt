use Rattle.std.proofs.Common.{◌≡◌, ◌∙◌, ◌+◌, ◌-◌, ℕ, None, sym, ap, subst, arith, length}
use Rattle.mcs_model.specs.BenchState.{BenchState}
use Rattle.mcs_model.specs.Command.{machine_of, stops_of}
use Rattle.mcs_model.specs.Running.{Machine, StopConditions}
use Rattle.mcs_bench.specs.declared.running.InstructionResult.{InstructionResult}
use Rattle.mcs_bench.specs.Runs.{RunContinuesAt, IsInstructionResult, stop_reason}
use Rattle.mcs_bench.proofs.Runs.{run-continues-at-start, run-result-of-stopped-run, run-stops-when-cycles-done, run-stops-if-no-cycle-possible, run-continues-after-instruction-result, run-stops-after-instruction-result}
use Rattle.mcs_probe.specs.Probes.{row}
use Rattle.mcs_answers.proofs.ForecastLines.{lines_text, is-trace-of-run, trace-so-far-next, no-lines-within-zero-cycles}
use Rattle.mcs_answers.proofs.UnchangedProbes.{row-stays-same}
use Rattle.mcs_answers.proofs.traces.add_lines.Goals as goal

pub loop-elapsed-init : goal.loop-elapsed-init
loop-elapsed-init g c =
    let b = c.args.bench.now in
    let s : Machine = machine_of b in
    let probes = c.args.probes.now in
    let none = no-lines-within-zero-cycles probes s in
    record {
      continues = subst (λ (x : BenchState). RunContinuesAt (stops_of b) c.args.n 0 s (machine_of x)) (sym c.in_ok-copy.ensures) (run-continues-at-start (stops_of b) c.args.n s);
      stops = ap stops_of c.in_ok-copy.ensures;
      report = record {
        row_now = c.first_row-rows.ensures ∙ sym (ap (λ (x : BenchState). row probes (machine_of x)) c.in_ok-copy.ensures);
        so_far = c.requires.empty ∙ sym (ap lines_text none);
        count = sym (ap length none);
        within = omega arith;
      };
    }

pub returns-in-None : goal.returns-in-None
returns-in-None g c =
    let b = c.args.bench.now in
    let s : Machine = machine_of b in
    let k : ℕ = c.loop-elapsed.elapsed in
    let t : Machine = machine_of c.loop-elapsed.copy in
    let continues = c.loop-elapsed.invariant.continues in
    let so_far = c.loop-elapsed.invariant.report in
    let report = c.in-None.ensures.executed in
    let stop = c.trace_result.ensures.stop ∙ ap (λ (x : BenchState). stop_reason (machine_of x) None) report.1 in
    is-trace-of-run c.args.probes.now c.args.n b t k c.trace_result.result c.loop-elapsed.text.items
    (run-result-of-stopped-run (stops_of b) c.args.n k s t None c.trace_result.result.stop (run-stops-if-no-cycle-possible (stops_of b) c.args.n k s t continues report.0) stop) c.trace_result.ensures.cycles (c.trace_result.ensures.lines ∙ so_far.count) so_far.so_far

pub add_instruction_line-requires-clause-same : goal.add_instruction_line-requires-clause-same
add_instruction_line-requires-clause-same g c =
    let b = c.args.bench.now in
    let n : ℕ = c.args.n in
    let k : ℕ = c.loop-elapsed.elapsed in
    let t : Machine = machine_of c.loop-elapsed.copy in
    let u : Machine = machine_of c.continue_run.new.self in
    λ on. c.loop-elapsed.invariant.report.row_now ∙ row-stays-same (stops_of c.loop-elapsed.copy) (n - k) t u c.in-Some.executed c.regs-regs.result c.regs.result c.args.probes.now c.in-Some.ensures.executed c.regs-regs.ensures.same c.regs.ensures.same (c.row_stays_same-is_row_unchanged.ensures on)

pub returns-in-Some-mark : goal.returns-in-Some-mark
returns-in-Some-mark g c =
    let b = c.args.bench.now in
    let s : Machine = machine_of b in
    let n : ℕ = c.args.n in
    let k : ℕ = c.loop-elapsed.elapsed in
    let t : Machine = machine_of c.loop-elapsed.copy in
    let u : Machine = machine_of c.continue_run.new.self in
    let w : InstructionResult = c.in-Some.executed in
    let continues = c.loop-elapsed.invariant.continues in
    let executed : IsInstructionResult (stops_of b) (n - k) t u w = subst (λ (x : StopConditions). IsInstructionResult x (n - k) t u w) c.loop-elapsed.invariant.stops c.in-Some.ensures.executed in
    let ran = run-stops-after-instruction-result (stops_of b) n k s t u w c.in-Some-mark.why continues executed c.loop-elapsed-test.true c.in-Some-mark.is in
    let report = trace-so-far-next c.args.probes.now (n - k) k w.cycles s t u c.regs-regs.result c.loop-elapsed.rows.last.items c.loop-elapsed.text.items c.add_instruction_line.new.rows.last.items c.add_instruction_line.new.text.items c.loop-elapsed.lines c.in_ok-lines-in-Some.field-0 continues.at executed.ran executed.some c.regs-regs.ensures.same c.loop-elapsed.invariant.report c.in_ok-lines-in-Some.ensures.row c.in_ok-lines-in-Some.ensures.lines c.in_ok-lines-in-Some.ensures.text in
    let traced = c.trace_result-in-Some-mark in
    is-trace-of-run c.args.probes.now n b u (k + w.cycles) traced.result c.add_instruction_line.new.text.items
    (run-result-of-stopped-run (stops_of b) n (k + w.cycles) s u w.mark traced.result.stop ran (traced.ensures.stop ∙ ap (stop_reason u) (sym c.in-Some-mark.is))) traced.ensures.cycles (traced.ensures.lines ∙ report.count) report.so_far

pub loop-elapsed-preserved : goal.loop-elapsed-preserved
loop-elapsed-preserved g c =
    let b = c.args.bench.now in
    let s : Machine = machine_of b in
    let n : ℕ = c.args.n in
    let k : ℕ = c.loop-elapsed.elapsed in
    let t : Machine = machine_of c.loop-elapsed.copy in
    let u : Machine = machine_of c.continue_run.new.self in
    let w : InstructionResult = c.in-Some.executed in
    let continues = c.loop-elapsed.invariant.continues in
    let executed : IsInstructionResult (stops_of b) (n - k) t u w = subst (λ (x : StopConditions). IsInstructionResult x (n - k) t u w) c.loop-elapsed.invariant.stops c.in-Some.ensures.executed in
    record {
      continues = run-continues-after-instruction-result (stops_of b) n k s t u w continues executed c.loop-elapsed-test.true c.in_default.is;
      stops = ap stops_of c.continue_run.ensures.rest ∙ c.loop-elapsed.invariant.stops;
      report = trace-so-far-next c.args.probes.now (n - k) k w.cycles s t u c.regs-regs.result c.loop-elapsed.rows.last.items c.loop-elapsed.text.items c.add_instruction_line.new.rows.last.items c.add_instruction_line.new.text.items c.loop-elapsed.lines c.in_ok-lines-in-Some.field-0 continues.at executed.ran executed.some c.regs-regs.ensures.same c.loop-elapsed.invariant.report c.in_ok-lines-in-Some.ensures.row c.in_ok-lines-in-Some.ensures.lines c.in_ok-lines-in-Some.ensures.text;
    }

pub returns : goal.returns
returns g c =
    let b = c.args.bench.now in
    let s : Machine = machine_of b in
    let n : ℕ = c.args.n in
    let k : ℕ = c.loop-elapsed.elapsed in
    let t : Machine = machine_of c.loop-elapsed.copy in
    let continues = c.loop-elapsed.invariant.continues in
    let within = continues.within in
    let all_cycles_done : n ≡ k = omega arith in
    let report = c.loop-elapsed.invariant.report in
    let traced = c.trace_result-2 in
    is-trace-of-run c.args.probes.now n b t k traced.result c.loop-elapsed.text.items
    (run-result-of-stopped-run (stops_of b) n k s t None traced.result.stop (run-stops-when-cycles-done (stops_of b) n k s t continues (sym all_cycles_done)) traced.ensures.stop) (traced.ensures.cycles ∙ all_cycles_done) (traced.ensures.lines ∙ report.count) report.so_far
