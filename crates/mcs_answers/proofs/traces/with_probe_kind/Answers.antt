use Rattle.std.proofs.Common.{sym, subst, true}
use Rattle.mcs_probe.specs.declared.probe.Probe.TheVariants as probe
use Rattle.mcs_answers.specs.UnchangedProbes.{IncludesProbeKind}
use Rattle.mcs_answers.proofs.UnchangedProbes.{chain-probe-stays-same, lamps-probe-stays-same, level-probe-stays-same, ram-port-probe-stays-same, rom-port-probe-stays-same, includes-port-probe, includes-ram-probe, includes-register-probe, includes-return-addresses-probe, includes-rom-probe, includes-src-probe, includes-status-probe}
use Rattle.mcs_answers.proofs.traces.with_probe_kind.Goals as goal

pub returns-in-Rom : goal.returns-in-Rom
returns-in-Rom c = subst (IncludesProbeKind c.args.probe_kinds c.args.probe_kinds) (sym c.in-Rom.is) (includes-rom-probe c.args.probe_kinds c.in-Rom.field-0)

pub returns-in-Ram : goal.returns-in-Ram
returns-in-Ram c = subst (IncludesProbeKind c.args.probe_kinds (record c.args.probe_kinds { ram = true })) (sym c.in-Ram.is) (includes-ram-probe c.args.probe_kinds c.in-Ram.field-0 c.in-Ram.field-1)

pub returns-in-Status : goal.returns-in-Status
returns-in-Status c = subst (IncludesProbeKind c.args.probe_kinds (record c.args.probe_kinds { status = true })) (sym c.in-Status.is) (includes-status-probe c.args.probe_kinds c.in-Status.field-0 c.in-Status.field-1 c.in-Status.field-2)

pub returns-in-Level : goal.returns-in-Level
returns-in-Level c = subst (IncludesProbeKind c.args.probe_kinds (record c.args.probe_kinds { ports = true })) (sym c.in-Level.is) (includes-port-probe c.args.probe_kinds (probe.Level c.in-Level.field-0) (λ op before after off. level-probe-stays-same op before after c.in-Level.field-0 off))

pub returns-in-RomPort : goal.returns-in-RomPort
returns-in-RomPort c = subst (IncludesProbeKind c.args.probe_kinds (record c.args.probe_kinds { ports = true })) (sym c.in-RomPort.is) (includes-port-probe c.args.probe_kinds (probe.RomPort c.in-RomPort.field-0) (λ op before after off. rom-port-probe-stays-same op before after c.in-RomPort.field-0 off))

pub returns-in-RamPort : goal.returns-in-RamPort
returns-in-RamPort c = subst (IncludesProbeKind c.args.probe_kinds (record c.args.probe_kinds { ports = true })) (sym c.in-RamPort.is) (includes-port-probe c.args.probe_kinds (probe.RamPort c.in-RamPort.field-0 c.in-RamPort.field-1) (λ op before after off. ram-port-probe-stays-same op before after c.in-RamPort.field-0 c.in-RamPort.field-1 off))

pub returns-in-Chain : goal.returns-in-Chain
returns-in-Chain c = subst (IncludesProbeKind c.args.probe_kinds (record c.args.probe_kinds { ports = true })) (sym c.in-Chain.is) (includes-port-probe c.args.probe_kinds (probe.Chain c.in-Chain.field-0) (λ op before after off. chain-probe-stays-same op before after c.in-Chain.field-0 off))

pub returns-in-Src : goal.returns-in-Src
returns-in-Src c = subst (IncludesProbeKind c.args.probe_kinds (record c.args.probe_kinds { src = true })) (sym c.in-Src.is) (includes-src-probe c.args.probe_kinds)

pub returns-in-Lamps : goal.returns-in-Lamps
returns-in-Lamps c = subst (IncludesProbeKind c.args.probe_kinds (record c.args.probe_kinds { ports = true })) (sym c.in-Lamps.is) (includes-port-probe c.args.probe_kinds probe.Lamps (λ op before after off. lamps-probe-stays-same op before after off))

pub returns-in-ReturnAddresses : goal.returns-in-ReturnAddresses
returns-in-ReturnAddresses c = subst (IncludesProbeKind c.args.probe_kinds (record c.args.probe_kinds { return_addresses = true })) (sym c.in-ReturnAddresses.is) (includes-return-addresses-probe c.args.probe_kinds)

pub returns-in_default : goal.returns-in_default
returns-in_default c = includes-register-probe c.args.probe_kinds c.args.probe
