use Rattle.std.proofs.Common.{◌≡◌, subst, arith, take}
use Rattle.std.proofs.lemmas.List.{take_all}
use Rattle.mcs_answers.specs.UnchangedProbes.{CoversProbes}
use Rattle.mcs_answers.proofs.traces.kinds_of_probes.Goals as goal

pub returns : goal.returns
returns c =
    let end = c.loop-probe-test.false in
    let all : take c.loop-probe.probe-index c.args.probes.now ≡ c.args.probes.now = take_all c.loop-probe.probe-index c.args.probes.now (omega arith) in
    subst (CoversProbes c.loop-probe.probe_kinds) all c.loop-probe.invariant
