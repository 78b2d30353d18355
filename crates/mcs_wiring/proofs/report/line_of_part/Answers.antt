use Rattle.std.proofs.Common.{◌∙◌, List, ℕ, Bool, ap, arith, rules, string_bytes}
use Rattle.mcs_wiring.specs.Parts.{has_part}
use Rattle.mcs_wiring.specs.PartView.{part_view}
use Rattle.mcs_wiring.proofs.LineSteps.{line_from_kept_if_test_false}
use Rattle.mcs_wiring.proofs.report.line_of_part.Goals as goal

pub loop-line-preserved : goal.loop-line-preserved
loop-line-preserved c =
    let holds : List ℕ → Bool = has_part (part_view c.args.part) in (
      search rules,
      line_from_kept_if_test_false holds c.loop-line.number _ (string_bytes c.loop-line.before) c.loop-line.rest.now c.in-Some.line.now c.in-Some.after.now (string_bytes c.push_line.new.text) c.in_ok-has_part.field-0
          c.in-Some.ensures.0 c.in_ok-push_line.ensures (c.in_ok-has_part.ensures ∙ ap holds c.as_str.ensures.value) c.if-branch.false c.loop-line.invariant.1,
      omega (arith, c.in-Some.ensures.1, c.loop-line.invariant.2),
    )
