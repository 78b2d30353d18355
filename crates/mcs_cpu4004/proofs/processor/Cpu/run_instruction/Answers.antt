use Rattle.std.proofs.Common.{◌≢◌, ◌-◌, ◌∙◌, sym, ap, subst, arith}
use Rattle.mcs_model.specs.declared.regs.Regs.{Regs}
use Rattle.mcs_model.specs.Bus.{BusState}
use Rattle.mcs_cpu4004.specs.IsInstructionRun.{IsInstructionRun}
use Rattle.mcs_cpu4004.proofs.InstructionRuns.{instruction_run-of_all_cycles}
use Rattle.mcs_cpu4004.proofs.processor.Cpu.run_instruction.Goals as goal

pub returns-clause-ran : goal.returns-clause-ran
returns-clause-ran g c =
    let before : Regs = c.self.inside.regs in
    let m : BusState = g.B.Bus.flat c.args.bus.now in
    let regs : Regs = c.execute-next.new.regs in
    let n : BusState = g.B.Bus.flat c.execute-next.new.bus in
    let decoded = c.requires.decoded in
    let cycles = c.from-needed.ensures in
    let some = c.execute-next.ensures.some in
    let few = c.execute-next.ensures.few in
    let fits = c.if-needed-left.false in
    let same = c.execute-next.ensures.owed in
    let range = c.self.invariant.1 in
    let free : before.owed ≢ 1 = λ e. c.requires.free (sym (ap (λ (r : Regs). r.owed) c.self.view_is) ∙ e) in
    let instruction_run =
    instruction_run-of_all_cycles c.args.left c.args.op (record before { pc = c.args.at }, m) regs n c.execute-next.result.0 c.from-needed.result (omega arith) free (cc)
    (ap (λ x. (record regs { pc = c.execute-next.result.0; owed = x - 1 }, n)) cycles ∙ c.execute-next.ensures.effect) (omega arith) (omega arith) (omega arith) in
    subst (λ (r : Regs). IsInstructionRun c.args.left (record r { pc = c.args.at }, m) (record regs { pc = c.execute-next.result.0 }, n) c.from-needed.result) c.self.view_is instruction_run
