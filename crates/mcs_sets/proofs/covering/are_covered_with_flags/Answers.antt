use Rattle.std.proofs.Common.{◌<◌, ◌∙◌, ℕ, below_more}
use Rattle.mcs_sets.specs.Covering.{AllowsChoice, IsChoiceCovered, choice_at}
use Rattle.mcs_sets.proofs.Covered.{choice-covered-for-equal-program}
use Rattle.mcs_sets.proofs.covering.are_covered_with_flags.Goals as goal

pub loop-bank-preserved : goal.loop-bank-preserved
loop-bank-preserved c =
    let es = c.args.entries.now in
    let e = c.args.entry.now in
    let op = c.args.op.now in
    let invariant_before = c.loop-bank.invariant in
    let bank_covered = c.are_covered_with_bank.ensures in
    let P : ℕ → Type 0 = λ k. (first second : ℕ) → first < 16 → second < 16 → AllowsChoice e op (choice_at c.args.flags k first second) → IsChoiceCovered c.args.rig.now.rom c.args.rig.now.board es e op (choice_at c.args.flags k first second) in
    record {
      covered = λ bank first second inside f s ok.
          below_more P c.loop-bank.bank (λ k h first second f s ok. invariant_before.covered k first second h f s ok)
          (λ first second f s ok. choice-covered-for-equal-program c.loop-bank.rig.rom c.args.rig.now.rom c.loop-bank.rig.board c.args.rig.now.board es e op (choice_at c.args.flags c.loop-bank.bank first second) invariant_before.rom invariant_before.board (bank_covered.covered c.if-not-are_covered_with_bank.false first second f s ok))
          bank inside first second f s ok;
      rom = bank_covered.rom ∙ invariant_before.rom;
      board = bank_covered.board ∙ invariant_before.board;
    }
