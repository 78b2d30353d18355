use Rattle.std.proofs.Common.{◌≡◌, ◌∙◌, sym, subst, ℕ, List, Result, Ok, Err}
use Rattle.std.specs.Prelude.{IsErrAnd}
use Rattle.mcs_source.specs.declared.fault.SourceFault.{SourceFault}
use Rattle.mcs_source.specs.Assembly.{assembly_of_text}
use Rattle.mcs_asm.specs.declared.fault.AsmFault.{AsmFault}
use Rattle.mcs_asm.specs.View.{Assembles, IsErrorAtLine}
use Rattle.mcs_asm.proofs.CellPairs.{image_is_by_address, has_one_byte_each}
use Rattle.mcs_asm.proofs.passes.assemble.Goals as goal

-- If `f` is the error that `assemble` must return, a result with the error `f` is correct.
returned_error_is_correct : (r : Result (List (ℕ × ℕ)) AsmFault) (f : AsmFault) (wanted : Result (List (ℕ × ℕ)) (ℕ × SourceFault)) → IsErrAnd r (λ e. e ≡ f) → IsErrorAtLine f.kind f.line wanted → Assembles r wanted
returned_error_is_correct (Ok image) f wanted is fails = absurd is
returned_error_is_correct (Err e) f wanted is fails = subst (λ (x : AsmFault). IsErrorAtLine x.kind x.line wanted) (sym is) fails

pub returns-in_err-cells : goal.returns-in_err-cells
returns-in_err-cells c = returned_error_is_correct c.from_residual.result c.in_err-cells.field-0.0 (assembly_of_text c.args.source.now) c.from_residual.ensures.1 c.in_err-cells.ensures

pub returns : goal.returns
returns c =
    let r = c.in_ok-cells.ensures.1 in
    (r.0, r.1, c.in_ok-image.ensures ∙ image_is_by_address c.in_ok-cells.cells r.0 r.2, has_one_byte_each c.in_ok-cells.cells r.0 r.2)
