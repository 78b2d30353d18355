use Rattle.std.proofs.Common.{◌≡◌, ◌∙◌, sym, subst, ap, ℕ, List, Option, Bor, Result, Ok, Err, None}
use Rattle.std.specs.Prelude.{IsErrAnd}
use Rattle.mcs_model.specs.TextLines.{lines_of}
use Rattle.mcs_source.specs.Assembly.{all_names, earliest_first_pass_fault, assembly_of_text}
use Rattle.mcs_source.specs.Survey.{Survey}
use Rattle.mcs_asm.specs.declared.fault.AsmFault.{AsmFault}
use Rattle.mcs_asm.specs.View.{IsErrorAtLine}
use Rattle.mcs_asm.specs.Passes.{FirstPassState, IsResultOfBothPasses}
use Rattle.mcs_asm.proofs.PassLists.{texts, parsed_lines, assembly_fails_if_first_pass_fails, second_pass_result_is_final}
use Rattle.mcs_asm.proofs.passes.both_passes.Goals as goal

-- If `f` is the error that both passes must return, a result with the error `f` is correct.
returned_error_is_correct : (r : Result (Survey × List (Option ℕ)) AsmFault) (f : AsmFault) (text : List ℕ) → IsErrAnd r (λ e. e ≡ f) → IsErrorAtLine f.kind f.line (assembly_of_text text) → IsResultOfBothPasses r text
returned_error_is_correct (Ok found) f text is fails = absurd is
returned_error_is_correct (Err e) f text is fails = subst (λ (x : AsmFault). IsErrorAtLine x.kind x.line (assembly_of_text text)) (sym is) fails

pub returns-in_err-names : goal.returns-in_err-names
returns-in_err-names c =
    let f : AsmFault = c.in_err-names.field-0.0 in
    let lines : texts c.deref.result.now ≡ lines_of c.args.source.now = ap texts c.deref.ensures.value ∙ (c.in_ok-lines.ensures ∙ ap lines_of c.as_bytes.ensures.value) in
    returned_error_is_correct c.from_residual-in_err-names.result f c.args.source.now c.from_residual-in_err-names.ensures.1 (assembly_fails_if_first_pass_fails f.kind f.line c.args.source.now (texts c.deref.result.now) lines c.in_err-names.ensures)

pub returns : goal.returns
returns c =
    let found : FirstPassState = c.in_ok-names.names in
    let lines : texts c.deref-2.result.now ≡ lines_of c.args.source.now = ap texts c.deref-2.ensures.value ∙ (c.in_ok-lines.ensures ∙ ap lines_of c.as_bytes.ensures.value) in
    let same : c.deref.result.now ≡ c.deref-2.result.now = c.deref.ensures.value ∙ sym c.deref-2.ensures.value in
    let one : earliest_first_pass_fault (parsed_lines c.deref-2.result.now) ≡ None = subst (λ (ls : List (Bor (List ℕ))). earliest_first_pass_fault (parsed_lines ls) ≡ None) same c.in_ok-names.ensures.0 in
    let names : found.names ≡ all_names (parsed_lines c.deref-2.result.now) = subst (λ (ls : List (Bor (List ℕ))). found.names ≡ all_names (parsed_lines ls)) same (ap (λ (b : FirstPassState). b.names) c.in_ok-names.ensures.1) in
    second_pass_result_is_final c.second_pass.result c.args.source.now (texts c.deref-2.result.now) found.names lines one names c.second_pass.ensures
