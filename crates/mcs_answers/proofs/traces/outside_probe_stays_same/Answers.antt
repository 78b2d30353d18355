use Rattle.std.proofs.Common.{sym, subst}
use Rattle.mcs_answers.specs.UnchangedProbes.{StaysSame}
use Rattle.mcs_answers.proofs.UnchangedProbes.{chain-probe-stays-same, lamps-probe-stays-same, level-probe-stays-same, excluded-if-false, ram-port-probe-stays-same, ram-probe-stays-same, rom-port-probe-stays-same, rom-probe-stays-same, src-probe-stays-same, status-probe-stays-same}
use Rattle.mcs_answers.proofs.traces.outside_probe_stays_same.Goals as goal

pub returns-in-Rom : goal.returns-in-Rom
returns-in-Rom c = λ _ before after. subst (StaysSame c.args.op.now before after) (sym c.in-Rom.is) (rom-probe-stays-same c.args.op.now before after c.in-Rom.field-0)

pub returns-in-Ram : goal.returns-in-Ram
returns-in-Ram c = λ on before after. subst (StaysSame c.args.op.now before after) (sym c.in-Ram.is) (ram-probe-stays-same c.args.op.now before after c.in-Ram.field-0 c.in-Ram.field-1 (excluded-if-false c.writes_ram.result on c.writes_ram.ensures.1))

pub returns-in-Status : goal.returns-in-Status
returns-in-Status c = λ on before after. subst (StaysSame c.args.op.now before after) (sym c.in-Status.is) (status-probe-stays-same c.args.op.now before after c.in-Status.field-0 c.in-Status.field-1 c.in-Status.field-2 (excluded-if-false c.writes_status.result on c.writes_status.ensures.1))

pub returns-in-Level : goal.returns-in-Level
returns-in-Level c = λ on before after. subst (StaysSame c.args.op.now before after) (sym c.in-Level.is) (level-probe-stays-same c.args.op.now before after c.in-Level.field-0 (excluded-if-false c.writes_port.result on c.writes_port.ensures.1))

pub returns-in-Lamps : goal.returns-in-Lamps
returns-in-Lamps c = λ on before after. subst (StaysSame c.args.op.now before after) (sym c.in-Lamps.is) (lamps-probe-stays-same c.args.op.now before after (excluded-if-false c.writes_port-in-Lamps.result on c.writes_port-in-Lamps.ensures.1))

pub returns-in-RomPort : goal.returns-in-RomPort
returns-in-RomPort c = λ on before after. subst (StaysSame c.args.op.now before after) (sym c.in-RomPort.is) (rom-port-probe-stays-same c.args.op.now before after c.in-RomPort.field-0 (excluded-if-false c.writes_port-in-RomPort.result on c.writes_port-in-RomPort.ensures.1))

pub returns-in-RamPort : goal.returns-in-RamPort
returns-in-RamPort c = λ on before after. subst (StaysSame c.args.op.now before after) (sym c.in-RamPort.is) (ram-port-probe-stays-same c.args.op.now before after c.in-RamPort.field-0 c.in-RamPort.field-1 (excluded-if-false c.writes_port-in-RamPort.result on c.writes_port-in-RamPort.ensures.1))

pub returns-in-Chain : goal.returns-in-Chain
returns-in-Chain c = λ on before after. subst (StaysSame c.args.op.now before after) (sym c.in-Chain.is) (chain-probe-stays-same c.args.op.now before after c.in-Chain.field-0 (excluded-if-false c.writes_port-in-Chain.result on c.writes_port-in-Chain.ensures.1))

pub returns-in-Src : goal.returns-in-Src
returns-in-Src c = λ on before after. subst (StaysSame c.args.op.now before after) (sym c.in-Src.is) (src-probe-stays-same c.args.op.now before after (λ k e. excluded-if-false c.writes_src.result on (c.writes_src.ensures k) e))
