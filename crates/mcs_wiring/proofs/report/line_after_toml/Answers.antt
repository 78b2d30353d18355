use Rattle.std.proofs.Common.{◌∙◌, ap, arith, rules, string_bytes}
use Rattle.mcs_wiring.specs.Parts.{is_toml}
use Rattle.mcs_wiring.proofs.LineSteps.{line_after_kept_if_test_true, line_after_kept_if_test_false}
use Rattle.mcs_wiring.proofs.report.line_after_toml.Goals as goal

pub loop-line-preserved-then-branch : goal.loop-line-preserved-then-branch
loop-line-preserved-then-branch c = (
  search rules,
  line_after_kept_if_test_true is_toml c.loop-line.number c.loop-line.after_toml _ (string_bytes c.loop-line.before) c.loop-line.rest.now c.in-Some.line.now c.in-Some.after.now (string_bytes c.push_line.new.text) c.in_ok-is_toml.field-0
      c.in-Some.ensures.0 c.in_ok-push_line.ensures (c.in_ok-is_toml.ensures ∙ ap is_toml c.as_str.ensures.value) c.if-branch.true c.loop-line.invariant.1,
  omega (arith, c.in-Some.ensures.1, c.loop-line.invariant.2),
)

pub loop-line-preserved : goal.loop-line-preserved
loop-line-preserved c = (
  search rules,
  line_after_kept_if_test_false is_toml c.loop-line.number c.loop-line.after_toml _ (string_bytes c.loop-line.before) c.loop-line.rest.now c.in-Some.line.now c.in-Some.after.now (string_bytes c.push_line.new.text) c.in_ok-is_toml.field-0
      c.in-Some.ensures.0 c.in_ok-push_line.ensures (c.in_ok-is_toml.ensures ∙ ap is_toml c.as_str.ensures.value) c.if-branch.false c.loop-line.invariant.1,
  omega (arith, c.in-Some.ensures.1, c.loop-line.invariant.2),
)
