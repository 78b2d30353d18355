use Rattle.std.proofs.Common.{rules, sym, ◌∙◌, None, Some, refl}
use Rattle.mcs_shell.specs.Inputs.{BadText, Text}
use Rattle.mcs_shell.proofs.AnsweredInputs.{answered_equal_input, answered_no_memory, answered_from_state, answered_refused_text, answered_text_with_command, answered_report, input_of_text_by_fault}
use Rattle.mcs_shell.proofs.answering.answer_text.Goals as goal

pub returns-in-Some : goal.returns-in-Some
returns-in-Some g c =
    answered_equal_input _ _ _ (BadText c.in-Some.fault) _ _ (input_of_text_by_fault c.args.kind c.args.text.now (Some c.in-Some.fault) (sym c.text_fault.ensures ∙ c.in-Some.is)) (answered_from_state _ (BadText c.in-Some.fault) _ refl (search rules))

pub returns-in-Ok-Ok-Executes : goal.returns-in-Ok-Ok-Executes
returns-in-Ok-Ok-Executes g c =
    answered_equal_input _ _ _ (Text c.args.kind c.args.text.now) _ _ (input_of_text_by_fault c.args.kind c.args.text.now None (search rules)) (answered_text_with_command _ _ c.args.kind c.args.text.now c.in-Ok-Ok-Executes.command _ _ (search rules) c.answer_change.ensures)

pub returns-in-Ok-Ok-Reports : goal.returns-in-Ok-Ok-Reports
returns-in-Ok-Ok-Reports g c =
    answered_equal_input _ _ _ (Text c.args.kind c.args.text.now) _ _ (input_of_text_by_fault c.args.kind c.args.text.now None (search rules)) (answered_report _ c.args.kind c.args.text.now c.in-Ok-Ok-Reports.lines.items _ (search rules) (search rules))

pub returns-in-Ok-Err : goal.returns-in-Ok-Err
returns-in-Ok-Err g c =
    answered_equal_input _ _ _ (Text c.args.kind c.args.text.now) _ _ (input_of_text_by_fault c.args.kind c.args.text.now None (search rules)) (answered_refused_text _ c.args.kind c.args.text.now c.in-Ok-Err.refusal _ (search rules) (search rules))

pub returns-in-Err : goal.returns-in-Err
returns-in-Err g c =
    answered_equal_input _ _ _ (Text c.args.kind c.args.text.now) _ _ (input_of_text_by_fault c.args.kind c.args.text.now None (search rules)) (answered_no_memory _ (Text c.args.kind c.args.text.now) _ refl c.set_refusal-in-Err.ensures)
