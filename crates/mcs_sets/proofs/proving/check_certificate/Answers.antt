use Rattle.std.proofs.Common.{map, subst}
use Rattle.mcs_drive.specs.TrackedMachine.{with_zero_counts}
use Rattle.mcs_check.specs.Conditions.{meets_none}
use Rattle.mcs_sets.specs.Excluding.{HoldsInEntry}
use Rattle.mcs_sets.proofs.EntryProperties.{entries-suffice}
use Rattle.mcs_sets.proofs.proving.check_certificate.Goals as goal

pub returns : goal.returns
returns c =
    let p = meets_none (map (λ n. n.items) c.args.never_lists.now) in
    let r = c.args.rig.now in
    entries-suffice p c.args.entries.now (with_zero_counts (c.args.cpu.now, r))
    (λ e there. subst (HoldsInEntry r.board r.rom p) there.2 (c.all_entries_avoid.ensures c.if-not-all_entries_avoid.false there.0 e there.1))
    c.rig_is_valid.ensures (c.stays_covered.ensures c.if-not-stays_covered.false)
