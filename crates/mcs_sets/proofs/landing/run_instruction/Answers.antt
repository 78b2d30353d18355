use Rattle.std.proofs.Common.{◌∙◌, ap}
use Rattle.mcs_model.specs.declared.regs.Regs.{Regs}
use Rattle.mcs_model.specs.Bus.{BusState}
use Rattle.mcs_sets.proofs.Running.{program-unchanged-by-bus_after, cycle_result-is-effect}
use Rattle.mcs_sets.proofs.landing.run_instruction.Goals as goal

pub returns-clause-ran : goal.returns-clause-ran
returns-clause-ran c =
    let op = c.args.op.now in
    let m : BusState = record c.args.rig.now { test = c.args.level } in
    let state_after = cycle_result-is-effect op c.processor-cpu.result c.args.regs.now c.set_test.new.self m (c.cycle-cycle.new.cpu, c.cycle-cycle.new.rig) c.cycle-cycle.ensures.state c.processor-cpu.ensures c.set_test.ensures c.requires.not_owed c.requires.instruction in
    c.regs.ensures.same ∙ ap (λ (x : Regs × BusState). x.0) state_after

pub returns-clause-rom : goal.returns-clause-rom
returns-clause-rom c =
    let op = c.args.op.now in
    let m : BusState = record c.args.rig.now { test = c.args.level } in
    let state_after = cycle_result-is-effect op c.processor-cpu.result c.args.regs.now c.set_test.new.self m (c.cycle-cycle.new.cpu, c.cycle-cycle.new.rig) c.cycle-cycle.ensures.state c.processor-cpu.ensures c.set_test.ensures c.requires.not_owed c.requires.instruction in
    ap (λ (x : Regs × BusState). x.1.rom) state_after ∙ (program-unchanged-by-bus_after op c.args.regs.now m).rom

pub returns-clause-board : goal.returns-clause-board
returns-clause-board c =
    let op = c.args.op.now in
    let m : BusState = record c.args.rig.now { test = c.args.level } in
    let state_after = cycle_result-is-effect op c.processor-cpu.result c.args.regs.now c.set_test.new.self m (c.cycle-cycle.new.cpu, c.cycle-cycle.new.rig) c.cycle-cycle.ensures.state c.processor-cpu.ensures c.set_test.ensures c.requires.not_owed c.requires.instruction in
    ap (λ (x : Regs × BusState). x.1.board) state_after ∙ (program-unchanged-by-bus_after op c.args.regs.now m).board
