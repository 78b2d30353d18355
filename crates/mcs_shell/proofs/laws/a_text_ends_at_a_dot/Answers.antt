use Rattle.std.proofs.Common.{◌≡◌, ℕ, List, [], ◌∷◌, ◌++◌, Bool, true, false, codes, ap, sym, append_assoc, append-nil, ◌∙◌, refl}
use Rattle.std.specs.List.{flat_map, list_any}
use Rattle.mcs_lines.specs.declared.requests.TextKind.{TextKind}
use Rattle.mcs_model.specs.TextLines.{as_line}
use Rattle.mcs_shell.specs.Inputs.{is_dot_line, input_of_text}
use Rattle.mcs_shell.specs.UnfinishedInputView.{OutsideText, InText, inputs_in_mode}
use Rattle.mcs_shell.proofs.LineFeeds.{inputs_in_mode-split_at_dots, inputs_in_mode-dot_line, inputs_in_mode-text_line, inputs_in_mode-text_begun}
use Rattle.mcs_shell.proofs.ExchangeLists.{both_false_if_or_false}
use Rattle.mcs_shell.proofs.laws.a_text_ends_at_a_dot.Goals as goal

-- the bytes of these lines, each followed by a line feed
abbrev bytes_of_lines : List (List ℕ) → List ℕ
bytes_of_lines text = flat_map as_line text

-- Lines that are not dot lines are appended to the open text.
inputs_in_mode-text_lines : (whole : Bool) (kind : TextKind) (text : List ℕ) (ts rest : List (List ℕ)) → list_any is_dot_line ts ≡ false
    → inputs_in_mode whole (InText kind text) (ts ++ rest) ≡ inputs_in_mode whole (InText kind (text ++ bytes_of_lines ts)) rest
inputs_in_mode-text_lines whole kind text [] rest h = ap (λ t. inputs_in_mode whole (InText kind t) rest) (sym (append-nil text))
inputs_in_mode-text_lines whole kind text (l ∷ ts) rest h =
    let both = both_false_if_or_false (is_dot_line l) (list_any is_dot_line ts) h in
    inputs_in_mode-text_line whole kind text l (ts ++ rest) both.0
    ∙ inputs_in_mode-text_lines whole kind (text ++ (l ++ 10 ∷ [])) ts rest both.1
    ∙ ap (λ t. inputs_in_mode whole (InText kind t) rest) (append_assoc text (l ++ 10 ∷ []) (bytes_of_lines ts))

pub returns-clause-ended : goal.returns-clause-ended
returns-clause-ended c = λ whole kind l ts rest e h.
    sym (inputs_in_mode-split_at_dots whole OutsideText (l ∷ (ts ++ codes "." ∷ rest)))
    ∙ inputs_in_mode-text_begun whole l (ts ++ codes "." ∷ rest) kind e
    ∙ inputs_in_mode-text_lines whole kind [] ts (codes "." ∷ rest) h
    ∙ inputs_in_mode-dot_line whole kind (bytes_of_lines ts) (codes ".") rest refl
    ∙ ap (λ is. input_of_text kind (bytes_of_lines ts) ∷ is) (inputs_in_mode-split_at_dots whole OutsideText rest)

pub returns-clause-open : goal.returns-clause-open
unfolding inputs_in_mode
returns-clause-open c = λ kind l ts e h.
    sym (inputs_in_mode-split_at_dots true OutsideText (l ∷ ts))
    ∙ inputs_in_mode-text_begun true l ts kind e
    ∙ ap (inputs_in_mode true (InText kind [])) (sym (append-nil ts))
    ∙ inputs_in_mode-text_lines true kind [] ts [] h
