use Rattle.std.proofs.Common.{◌∙◌, slice_index_or, subst, below_more, arith}
use Rattle.mcs_drive.specs.TrackedMachine.{with_zero_counts}
use Rattle.mcs_sets.specs.declared.entries.Entry.{Entry}
use Rattle.mcs_sets.specs.Closure.{StaysCoveredOneCycle}
use Rattle.mcs_sets.proofs.Certified.{stays-covered-for-equal-program, closure-suffices}
use Rattle.mcs_sets.proofs.certifying.stays_covered.Goals as goal

pub loop-i-preserved : goal.loop-i-preserved
loop-i-preserved c =
    let es = c.args.entries.now in
    let invariant_before = c.loop-i.invariant in
    let entry_covered = c.stays_covered_one_cycle_at.ensures in
    record {
      stays_covered_one_cycle = λ k d inside.
          below_more (λ k. (d : Entry) → StaysCoveredOneCycle c.args.rig.now.board c.args.rig.now.rom es (slice_index_or es k d)) c.loop-i.i
          (λ k h d. invariant_before.stays_covered_one_cycle k d h)
          (λ d. stays-covered-for-equal-program c.loop-i.rig.board c.args.rig.now.board c.loop-i.rig.rom c.args.rig.now.rom es (slice_index_or es c.loop-i.i d) invariant_before.board invariant_before.rom (entry_covered.stays_covered_one_cycle c.if-not-stays_covered_one_cycle_at.false d))
          k inside d;
      rom = entry_covered.rom ∙ invariant_before.rom;
      board = entry_covered.board ∙ invariant_before.board;
    }

pub returns : goal.returns
returns c = λ _.
    let es = c.args.entries.now in
    let r = c.args.rig.now in
    let end = c.loop-i-test.false in
    closure-suffices r.board r.rom es (with_zero_counts (c.args.cpu.now, r))
    (λ e there. subst (StaysCoveredOneCycle r.board r.rom es) there.2 (c.loop-i.invariant.stays_covered_one_cycle there.0 e (let inside = there.1 in omega arith)))
    c.rig_is_valid.ensures (c.first_entry_covers.ensures c.if-not-first_entry_covers.false)
