use Rattle.std.proofs.Common.{◌≡◌, ◌∙◌, ◌++◌, ℕ, List, [], Vec, Global, length, map, ap}
use Rattle.mcs_model.specs.TextLines.{as_line, text_of}
use Rattle.mcs_asm.specs.declared.all_errors.LineError.{LineError}
use Rattle.mcs_asm.specs.Errors.{error_row, errors_header, errors_text}
use Rattle.mcs_asm.proofs.all_errors.errors_text.Goals as goal

text_is_errors_text : (errors : List LineError) (empty head text : List ℕ) → empty ≡ [] → head ≡ empty ++ as_line (errors_header (length errors)) → text ≡ head ++ text_of (map error_row errors) → text ≡ errors_text errors
unfolding errors_text
text_is_errors_text errors empty head text e h t = t ∙ ap (λ (x : List ℕ). x ++ text_of (map error_row errors)) (h ∙ ap (λ (x : List ℕ). x ++ as_line (errors_header (length errors))) e)

pub returns : goal.returns
returns c =
    ap (λ (v : Vec ℕ Global). v.items) c.into_bytes.ensures.value
    ∙ text_is_errors_text c.args.errors.now _ _ _ c.new-out.ensures.bytes c.in_ok-push_header.ensures c.in_ok-push_errors.ensures
