use Rattle.std.proofs.Common.{◌≡◌, sym, subst, arith, List, take}
use Rattle.std.proofs.lemmas.List.{take_all}
use Rattle.mcs_probe.specs.declared.probe.Probe.{Probe}
use Rattle.mcs_model.specs.Effect.{bus_after}
use Rattle.mcs_probe.specs.Probes.{row}
use Rattle.mcs_answers.specs.UnchangedProbes.{RowStaysSame}
use Rattle.mcs_answers.proofs.traces.row_stays_same_by_values.Goals as goal

pub returns-after-loop-probe : goal.returns-after-loop-probe
returns-after-loop-probe c = λ _.
    let end = c.loop-probe-test.false in
    let all : take c.loop-probe.probe-index c.args.probes.now ≡ c.args.probes.now = take_all c.loop-probe.probe-index c.args.probes.now (omega arith) in
    subst (λ o. RowStaysSame o c.args.before.now c.args.after.now c.args.probes.now) (sym c.in-Some.is)
    (λ m. subst (λ (ps : List Probe). row ps (c.args.after.now, bus_after c.in-Some.op c.args.before.now m) ≡ row ps (c.args.before.now, m)) all (c.loop-probe.invariant m))
