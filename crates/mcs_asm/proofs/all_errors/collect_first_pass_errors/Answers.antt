use Rattle.mcs_asm.proofs.ErrorLists.{first_pass_report_at_start, first_pass_report_at_next_line, first_pass_report_after_last_line, first_pass_report_has_at_most_100}
use Rattle.mcs_asm.proofs.all_errors.collect_first_pass_errors.Goals as goal

pub loop-i-init : goal.loop-i-init
loop-i-init c = rw (c.new-names.ensures, c.new-errors.ensures.items) (first_pass_report_at_start c.args.lines.now)

pub push_error_if_any-requires-clause-room : goal.push_error_if_any-requires-clause-room
push_error_if_any-requires-clause-room c = first_pass_report_has_at_most_100 c.args.lines.now c.loop-i.i c.loop-i.names c.loop-i.errors.items c.loop-i.invariant

pub loop-i-preserved : goal.loop-i-preserved
loop-i-preserved c =
    first_pass_report_at_next_line c.args.lines.now c.loop-i.i c.loop-i.names c.add_line_or_error.new.names c.loop-i.errors.items c.push_error_if_any.new.errors.items _ c.in_ok-fault.fault c.loop-i-test.true c.loop-i.invariant c.in_ok-fault.ensures.0 c.in_ok-fault.ensures.1
    c.in_ok-push_error_if_any.ensures

pub returns : goal.returns
returns c = first_pass_report_after_last_line c.args.lines.now c.loop-i.i c.loop-i.names c.loop-i.errors.items c.loop-i-test.false c.loop-i.invariant
