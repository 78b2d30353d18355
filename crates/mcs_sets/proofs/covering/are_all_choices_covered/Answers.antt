use Rattle.std.proofs.Common.{◌<◌, ◌∙◌, ℕ, below_more}
use Rattle.mcs_sets.specs.Covering.{AllowsChoice, IsChoiceCovered, choice_at}
use Rattle.mcs_sets.proofs.Covered.{choice-covered-for-equal-program}
use Rattle.mcs_sets.proofs.covering.are_all_choices_covered.Goals as goal

pub loop-flags-preserved : goal.loop-flags-preserved
loop-flags-preserved c =
    let es = c.args.entries.now in
    let e = c.args.entry.now in
    let op = c.args.op.now in
    let invariant_before = c.loop-flags.invariant in
    let flags_covered = c.are_covered_with_flags.ensures in
    let P : ℕ → Type 0 = λ k. (bank first second : ℕ) → bank < 16 → first < 16 → second < 16 → AllowsChoice e op (choice_at k bank first second) → IsChoiceCovered c.args.rig.now.rom c.args.rig.now.board es e op (choice_at k bank first second) in
    record {
      covered = λ flags bank first second inside b f s ok.
          below_more P c.loop-flags.flags (λ k h bank first second b f s ok. invariant_before.covered k bank first second h b f s ok)
          (λ bank first second b f s ok. choice-covered-for-equal-program c.loop-flags.rig.rom c.args.rig.now.rom c.loop-flags.rig.board c.args.rig.now.board es e op (choice_at c.loop-flags.flags bank first second) invariant_before.rom invariant_before.board (flags_covered.covered c.if-not-are_covered_with_flags.false bank first second b f s ok))
          flags inside bank first second b f s ok;
      rom = flags_covered.rom ∙ invariant_before.rom;
      board = flags_covered.board ∙ invariant_before.board;
    }
