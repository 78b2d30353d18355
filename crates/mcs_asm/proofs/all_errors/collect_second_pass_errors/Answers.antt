use Rattle.mcs_source.specs.Assembly.{Names}
use Rattle.mcs_asm.proofs.PassLists.{parsed_lines}
use Rattle.mcs_asm.specs.Errors.{pairs_skipping_errors}
use Rattle.mcs_asm.proofs.ErrorLists.{second_pass_report_at_start, valid_ith_line_in_second_pass_report, second_pass_report_at_next_line, second_pass_report_after_last_line, second_pass_report_has_at_most_100}
use Rattle.mcs_asm.proofs.all_errors.collect_second_pass_errors.Goals as goal

pub loop-i-init : goal.loop-i-init
loop-i-init c = rw (c.in_ok-new.ensures, c.new-errors.ensures.items) (second_pass_report_at_start c.args.lines.now c.args.names.now.names)

pub emit_line_or_error-requires : goal.emit_line_or_error-requires
emit_line_or_error-requires c = valid_ith_line_in_second_pass_report c.args.lines.now c.args.names.now.names c.loop-i.i c.loop-i.pass_state.at c.loop-i.pass_state.cells c.loop-i.errors.items _ c.loop-i-test.true c.requires.no_fault c.loop-i.invariant

pub push_error_if_any-requires-clause-room : goal.push_error_if_any-requires-clause-room
push_error_if_any-requires-clause-room c = second_pass_report_has_at_most_100 c.args.lines.now c.args.names.now.names c.loop-i.i c.loop-i.pass_state.at c.loop-i.pass_state.cells c.loop-i.errors.items c.loop-i.invariant

pub loop-i-preserved : goal.loop-i-preserved
loop-i-preserved c =
    let names : Names = c.args.names.now.names in
    second_pass_report_at_next_line c.args.lines.now names c.loop-i.i c.loop-i.pass_state.at c.emit_line_or_error.new.self.at c.loop-i.pass_state.cells c.emit_line_or_error.new.self.cells c.loop-i.errors.items c.push_error_if_any.new.errors.items _ c.in_ok-fault.fault c.loop-i-test.true
    c.loop-i.invariant (c.in_ok-fault.ensures.error (pairs_skipping_errors (parsed_lines c.args.lines.now) names c.loop-i.i) c.loop-i.invariant.holds_pairs) c.in_ok-fault.ensures.next c.in_ok-push_error_if_any.ensures

pub returns : goal.returns
returns c = second_pass_report_after_last_line c.args.lines.now c.args.names.now.names c.loop-i.i c.loop-i.pass_state.at c.loop-i.pass_state.cells c.loop-i.errors.items c.loop-i-test.false c.requires.names c.loop-i.invariant
