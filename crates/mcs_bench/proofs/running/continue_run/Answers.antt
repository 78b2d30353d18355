use Rattle.std.proofs.Common.{◌≡◌, ◌≢◌, ◌∙◌, ◌&&◌, Some, None, refl, sym, ap, eqb, subst}
use Rattle.mcs_model.specs.declared.regs.Regs.{Regs}
use Rattle.mcs_model.specs.Effect.{instruction_at}
use Rattle.mcs_model.specs.Listed.{is_listed}
use Rattle.mcs_model.specs.Running.{Machine, StopConditions}
use Rattle.mcs_cpu4004.specs.IsInstructionRun.{IsInstructionRun}
use Rattle.mcs_bench.specs.Runs.{PredictsWatchChange, debug_stop_of}
use Rattle.mcs_bench.proofs.Runs.{is_outside_table-without-instruction, instruction-result-of-second-cycle, instruction-result-of-op}
use Rattle.mcs_bench.proofs.running.continue_run.Goals as goal

pub returns-then-regs-eq1 : goal.returns-then-regs-eq1
returns-then-regs-eq1 c =
    let stops : StopConditions = record { breaks = c.args.breaks.now; watches = c.args.watches.now } in
    let s : Machine = (c.args.cpu.now, c.args.rig.now) in
    let owed : s.0.owed ≡ 1 = sym (ap (λ (r : Regs). r.owed) c.regs-regs.ensures.same) ∙ c.if-regs-eq1.true in
    instruction-result-of-second-cycle stops c.args.left s (c.run_second_cycle.new.cpu, c.args.rig.now) c.run_second_cycle.result c.requires owed (ap (λ (r : Regs). (r, c.args.rig.now)) c.run_second_cycle.ensures.state) c.run_second_cycle.ensures.cycles c.run_second_cycle.ensures.mark c.run_second_cycle.ensures.op

pub returns-in-None : goal.returns-in-None
returns-in-None c =
    let s : Machine = (c.args.cpu.now, c.args.rig.now) in
    let free : s.0.owed ≢ 1 = λ e. c.if-regs-eq1.false (ap (λ (r : Regs). r.owed) c.regs-regs.ensures.same ∙ e) in
    let at : None ≡ instruction_at s.0 s.1 = sym c.in-None.is ∙ c.instruction.ensures ∙ ap (λ (r : Regs). instruction_at (record c.args.cpu.now { pc = r.pc }) c.args.rig.now) c.regs-regs.ensures.same in
    (is_outside_table-without-instruction s free at, refl, refl)

pub returns-in-Some : goal.returns-in-Some
returns-in-Some c =
    let stops : StopConditions = record { breaks = c.args.breaks.now; watches = c.args.watches.now } in
    let s : Machine = (c.args.cpu.now, c.args.rig.now) in
    let t : Machine = (c.set_pc.new.self, c.run_instruction-cycles.new.rig) in
    let same = c.regs-regs.ensures.same in
    let here : record c.args.cpu.now { pc = c.regs-regs.result.pc } ≡ c.args.cpu.now = ap (λ (r : Regs). record c.args.cpu.now { pc = r.pc }) same in
    let free : s.0.owed ≢ 1 = λ e. c.if-regs-eq1.false (ap (λ (r : Regs). r.owed) same ∙ e) in
    let at : instruction_at s.0 s.1 ≡ Some c.in-Some.op = sym (sym c.in-Some.is ∙ c.instruction.ensures ∙ ap (λ (r : Regs). instruction_at r c.args.rig.now) here) in
    let ran : IsInstructionRun c.args.left s t c.run_instruction-cycles.result.1 =
    subst (λ (r : Regs). IsInstructionRun c.args.left s (r, c.run_instruction-cycles.new.rig) c.run_instruction-cycles.result.1) (sym c.set_pc.ensures)
    (subst (λ (r : Regs). IsInstructionRun c.args.left (r, c.args.rig.now) (record c.run_instruction-cycles.new.cpu { pc = c.run_instruction-cycles.result.0 }, c.run_instruction-cycles.new.rig) c.run_instruction-cycles.result.1) here c.run_instruction-cycles.ensures.ran) in
    let predicted : PredictsWatchChange c.args.watches.now s c.op_changes_any_watch-changes_watch.result = subst (λ (r : Regs). PredictsWatchChange c.args.watches.now (r, c.args.rig.now) c.op_changes_any_watch-changes_watch.result) here c.op_changes_any_watch-changes_watch.ensures in
    let mark = c.debug_stop_at.ensures.mark ∙ ap (λ p. debug_stop_of (eqb c.set_pc.new.self.owed 0 && is_listed c.args.breaks.now p) c.op_changes_any_watch-changes_watch.result) (sym (ap (λ (r : Regs). r.pc) c.set_pc.ensures)) in
    instruction-result-of-op stops c.args.left s t c.in-Some.op c.op_changes_any_watch-changes_watch.result _ free at ran c.run_instruction-cycles.ensures.goes predicted mark refl
