use Rattle.std.proofs.Common.{◌≡◌, ◌∙◌, ◌++◌, ℕ, List, [], Bor, Vec, Global, length, map, sym, ap}
use Rattle.std.proofs.lemmas.List.{length-map}
use Rattle.mcs_model.specs.TextLines.{as_line, text_of}
use Rattle.mcs_source.specs.Survey.{Survey}
use Rattle.mcs_source.specs.declared.survey.Span.{Span}
use Rattle.mcs_source.specs.MapText.{header_row, line_rows, name_row, survey_text}
use Rattle.mcs_asm.proofs.rows.survey_text.Goals as goal

text_is_survey_text : (s : Survey) (spans : List Span) (es : List (Bor (List ℕ) × ℕ)) (empty head lines text : List ℕ) → empty ≡ [] → spans ≡ s.spans → map (λ e. (e.0.now, e.1)) es ≡ s.names → head ≡ empty ++ as_line (header_row (length spans) (length es))
    → lines ≡ head ++ text_of (line_rows 1 spans) → text ≡ lines ++ text_of (map name_row (map (λ e. (e.0.now, e.1)) es)) → text ≡ survey_text s
unfolding survey_text
text_is_survey_text s spans es empty head lines text e same names h l t =
    let count : length es ≡ length s.names = sym (length-map es (λ (x : Bor (List ℕ) × ℕ). (x.0.now, x.1))) ∙ ap length names in
    let first : head ≡ as_line (header_row (length s.spans) (length s.names)) =
    h ∙ (ap (λ (x : List ℕ). x ++ as_line (header_row (length spans) (length es))) e ∙ (ap (λ (x : List Span). as_line (header_row (length x) (length es))) same ∙ ap (λ (n : ℕ). as_line (header_row (length s.spans) n)) count)) in
    t
    ∙ (ap (λ (ns : List (List ℕ × ℕ)). lines ++ text_of (map name_row ns)) names
    ∙ ap (λ (x : List ℕ). x ++ text_of (map name_row s.names)) (l ∙ (ap (λ (x : List ℕ). x ++ text_of (line_rows 1 spans)) first ∙ ap (λ (x : List Span). as_line (header_row (length s.spans) (length s.names)) ++ text_of (line_rows 1 x)) same)))

pub returns : goal.returns
returns c =
    text_is_survey_text c.args.survey.now c.spans-spans.result.now c.names-names.result.now _ _ _ _ c.new-lines.ensures.bytes c.spans-spans.ensures c.names-names.ensures c.in_ok-push_header.ensures c.in_ok-push_lines.ensures
    (c.in_ok-push_names.ensures ∙ ap (λ (v : Vec ℕ Global). v.items ++ text_of (map name_row (map (λ e. (e.0.now, e.1)) c.names-names.result.now))) c.into_bytes-text.ensures.value)
