use Rattle.std.proofs.Common.{◌≡◌, ◌+◌, ◌*◌, ◌∙◌, inl, inr, subst, arith}
use Rattle.std.proofs.lemmas.Bool.{cases_lt}
use Rattle.mcs_sets.specs.declared.landing.Choice.{Choice}
use Rattle.mcs_sets.specs.Covering.{AllowsChoice, IsChoiceCovered, choice_at}
use Rattle.mcs_sets.proofs.Covered.{choice-is-choice_at, choice-covered-for-equal-program}
use Rattle.mcs_sets.proofs.covering.are_covered_with_bank.Goals as goal

pub loop-byte-preserved : goal.loop-byte-preserved
loop-byte-preserved c =
    let es = c.args.entries.now in
    let e = c.args.entry.now in
    let op = c.args.op.now in
    let rom = c.loop-byte.rig.rom in
    let board = c.loop-byte.rig.board in
    let byte = c.loop-byte.byte in
    let byte_below_limit = c.loop-byte-test.true in
    let invariant_before = c.loop-byte.invariant in
    let choice_covered = c.is_choice_covered.ensures in
    record {
      covered = λ first second small inside ok.
          elim (cases_lt (first * 16 + second) byte) [
            | inl before ↦ invariant_before.covered first second small before ok
            | inr behind ↦
                let upper = c.low_of-in-loop-byte-2.ensures in
                let lower = c.low_of-in-loop-byte-3.ensures in
                let v : c.low_of-in-loop-byte-2.result ≡ first = omega arith in
                let w : c.low_of-in-loop-byte-3.result ≡ second = omega arith in
                let equal_choices = choice-is-choice_at c.low_of.result c.low_of-in-loop-byte.result c.args.bank c.low_of-in-loop-byte-2.result c.low_of-in-loop-byte-3.result c.args.flags first second c.low_of.ensures c.low_of-in-loop-byte.ensures v w in
                choice-covered-for-equal-program rom c.args.rig.now.rom board c.args.rig.now.board es e op (choice_at c.args.flags c.args.bank first second) invariant_before.rom invariant_before.board
                (subst (λ (x : Choice). AllowsChoice e op x → IsChoiceCovered rom board es e op x) equal_choices (choice_covered.covered c.if-not-is_choice_covered.false) ok)
          ];
      rom = choice_covered.rom ∙ invariant_before.rom;
      board = choice_covered.board ∙ invariant_before.board;
    }
