use Rattle.std.proofs.Common.{◌≡◌, ◌∙◌, List, [], length, Option, sym, ap, eqb, false}
use Rattle.mcs_source.specs.Lines.{SourceLine}
use Rattle.mcs_asm.specs.Passes.{FirstPassState}
use Rattle.mcs_asm.specs.Errors.{first_pass_skipping_errors, first_pass_errors, second_pass_errors, reported_errors}
use Rattle.mcs_asm.specs.declared.all_errors.LineError.{LineError}
use Rattle.mcs_asm.proofs.PassLists.{parsed_lines, parsed_lines_length}
use Rattle.mcs_asm.proofs.ErrorLists.{no_first_pass_fault_if_none_reported, empty_if_length_0, errors_or_else_is_first, no_line_skipped_if_none_reported}
use Rattle.mcs_asm.proofs.all_errors.errors_of_lines.Goals as goal

pub collect_second_pass_errors-requires-clause-no_fault : goal.collect_second_pass_errors-requires-clause-no_fault
collect_second_pass_errors-requires-clause-no_fault c =
    no_first_pass_fault_if_none_reported (parsed_lines c.args.lines.now) (sym c.in_ok-names.ensures.1 ∙ (sym c.deref.ensures.value ∙ empty_if_length_0 c.deref.result.now (sym c.has_no_errors.ensures ∙ c.if-has_no_errors.true)))

pub collect_second_pass_errors-requires-clause-names : goal.collect_second_pass_errors-requires-clause-names
collect_second_pass_errors-requires-clause-names c =
    let lines : List (Option SourceLine) = parsed_lines c.args.lines.now in
    let none : reported_errors (first_pass_errors lines) ≡ [] = sym c.in_ok-names.ensures.1 ∙ (sym c.deref.ensures.value ∙ empty_if_length_0 c.deref.result.now (sym c.has_no_errors.ensures ∙ c.if-has_no_errors.true)) in
    ap (λ (b : FirstPassState). b.names) (c.in_ok-names.ensures.0 ∙ (ap (first_pass_skipping_errors lines) (sym (parsed_lines_length c.args.lines.now)) ∙ no_line_skipped_if_none_reported lines none))

pub returns : goal.returns
returns c =
    let lines : List (Option SourceLine) = parsed_lines c.args.lines.now in
    let some : eqb (length c.in_ok-names.errors.items) 0 ≡ false = ap (λ (xs : List LineError). eqb (length xs) 0) (sym c.deref.ensures.value) ∙ (sym c.has_no_errors.ensures ∙ c.if-has_no_errors.false) in
    errors_or_else_is_first c.in_ok-names.errors.items (reported_errors (first_pass_errors lines)) (reported_errors (second_pass_errors lines)) c.in_ok-names.ensures.1 some
