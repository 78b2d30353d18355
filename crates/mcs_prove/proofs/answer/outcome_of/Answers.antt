use Rattle.std.proofs.Common.{◌≡◌, ◌∙◌, ◌<◌, Some, Vec, Global, map, option_map, string_bytes, sym, ap, subst, arith}
use Rattle.std.proofs.lemmas.Result.{IfOk-weaker}
use Rattle.mcs_check.specs.declared.conditions.Condition.{Condition}
use Rattle.mcs_prove.specs.Questions.{IsAnswerTo, QuestionSoFar}
use Rattle.mcs_prove.proofs.Proved.{is_answer-if_never_lists_proved}
use Rattle.mcs_prove.proofs.answer.outcome_of.Goals as goal

pub returns : goal.returns
returns c =
    let q = c.in_ok-question.question in
    let equal_view = sym c.question.view_is in
    let texts = c.in-Some-Some in
    let board : q.board ≡ Some c.as_str.result.now =
    ap (λ (a : QuestionSoFar). a.board) equal_view ∙ ap (option_map string_bytes) texts.is-0 ∙ ap Some (sym c.as_str.ensures.value) in
    let program : q.program ≡ Some c.as_str-2.result.now =
    ap (λ (a : QuestionSoFar). a.program) equal_view ∙ ap (option_map string_bytes) texts.is-1 ∙ ap Some (sym c.as_str-2.ensures.value) in
    let never_lists = ap (map (λ (n : Vec Condition Global). n.items)) c.deref.ensures.value ∙ ap (λ (a : QuestionSoFar). a.never_lists) c.question.view_is in
    let entries = c.if-question-eq0.false in
    let some : 0 < c.question.inside.max_entries = omega arith in
    IfOk-weaker c.prove_by_sets.result _ (IsAnswerTo c.args.text.now)
    (λ found. is_answer-if_never_lists_proved c.args.text.now c.as_str.result.now c.as_str-2.result.now q _ found c.in_ok-question.ensures
    (ap (λ (a : QuestionSoFar). a.has_prove_line) equal_view ∙ c.if-not-question.false) (sym c.is_consistent.ensures ∙ c.if-not-is_consistent.false) board program
    (subst (λ (a : QuestionSoFar). 0 < a.max_entries) c.question.view_is some) never_lists)
    c.prove_by_sets.ensures
