use Rattle.std.proofs.Common.{◌≡◌, sym, subst, ℕ, List, Option, Result, Ok, Err}
use Rattle.std.specs.Prelude.{IsErrAnd}
use Rattle.mcs_source.specs.Lines.{SourceLine}
use Rattle.mcs_source.specs.Assembly.{Names, pairs_before, earliest_second_pass_fault}
use Rattle.mcs_source.specs.Survey.{Survey}
use Rattle.mcs_asm.specs.declared.fault.AsmFault.{AsmFault}
use Rattle.mcs_asm.specs.Passes.{IsFirstError, IsLineNumber, IsSecondPassResult}
use Rattle.mcs_asm.proofs.PassLists.{parsed_lines, second_pass_invariant_at_start, valid_ith_line_if_no_first_pass_fault, second_pass_invariant_at_next_line, earliest_error_if_line_rejected, all_lines_emitted}
use Rattle.mcs_asm.proofs.passes.second_pass.Goals as goal

-- If `f` is the error that the second pass must return, a result with the error `f` is correct.
returned_error_is_correct : (r : Result (Survey × List (Option ℕ)) AsmFault) (f : AsmFault) (lines : List (Option SourceLine)) (names : Names) → IsErrAnd r (λ e. e ≡ f) → IsFirstError f.kind f.line (earliest_second_pass_fault lines names) → IsSecondPassResult r lines names
returned_error_is_correct (Ok found) f lines names is fails = absurd is
returned_error_is_correct (Err e) f lines names is fails = subst (λ (x : AsmFault). IsFirstError x.kind x.line (earliest_second_pass_fault lines names)) (sym is) fails

pub loop-i-init : goal.loop-i-init
loop-i-init c = rw (c.in_ok-new.ensures, c.in_ok-with_capacity.ensures.items) (second_pass_invariant_at_start c.args.lines.now c.args.names.names)

pub emit_line-requires : goal.emit_line-requires
emit_line-requires c = valid_ith_line_if_no_first_pass_fault c.args.lines.now c.args.names.names c.loop-i.i c.loop-i.pass_state.at c.loop-i.pass_state.cells c.loop-i.pass_state.spans.items _ c.loop-i-test.true c.requires.no_fault c.loop-i.invariant

pub loop-i-preserved : goal.loop-i-preserved
loop-i-preserved c =
    let names : Names = c.args.names.names in
    let h = c.loop-i.invariant in
    let done : c.emit_line.result ≡ Ok c.in_ok-add_line_number.field-0 = c.in_ok-add_line_number.ensures in
    let r = rw done at (c.emit_line.ensures.bytes (pairs_before (parsed_lines c.args.lines.now) names c.loop-i.i) h.holds_pairs) in
    second_pass_invariant_at_next_line c.args.lines.now names c.loop-i.i c.loop-i.pass_state.at c.emit_line.new.self.at c.loop-i.pass_state.cells c.emit_line.new.self.cells c.loop-i.pass_state.spans.items c.emit_line.new.self.spans.items _ c.loop-i-test.true h r.0 r.1 r.2 r.3 (rw done at c.emit_line.ensures.span)

pub returns-in_err-add_line_number : goal.returns-in_err-add_line_number
returns-in_err-add_line_number c =
    let names : Names = c.args.names.names in
    let h = c.loop-i.invariant in
    let f : AsmFault = c.in_err-add_line_number.field-0.0 in
    let from : (c.emit_line.result ≡ Err f.kind) × IsLineNumber f.kind c.loop-i.i f.line = c.in_err-add_line_number.ensures in
    let refused = rw from.0 at (c.emit_line.ensures.bytes (pairs_before (parsed_lines c.args.lines.now) names c.loop-i.i) h.holds_pairs) in
    returned_error_is_correct c.from_residual-in_err-add_line_number.result f (parsed_lines c.args.lines.now) names c.from_residual-in_err-add_line_number.ensures.1
    (earliest_error_if_line_rejected f.kind f.line c.args.lines.now names c.loop-i.i c.loop-i.pass_state.at c.emit_line.new.self.at c.loop-i.pass_state.cells c.emit_line.new.self.cells c.loop-i.pass_state.spans.items _ c.loop-i-test.true h refused from.1)

pub returns : goal.returns
returns c = all_lines_emitted c.args.lines.now c.args.names.names c.loop-i.i c.loop-i.pass_state.at c.loop-i.pass_state.cells c.loop-i.pass_state.spans.items c.new-2.result c.loop-i-test.false c.loop-i.invariant c.new-2.ensures
