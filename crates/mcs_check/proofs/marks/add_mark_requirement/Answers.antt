use Rattle.std.proofs.Common.{◌≡◌, ◌<◌, ◌∙◌, ◌++◌, ◌∷◌, [], ℕ, List, length, get_or, ap, arith}
use Rattle.std.proofs.lemmas.List.{get_or_default, take_all}
use Rattle.mcs_check.specs.declared.conditions.Condition.{Condition}
use Rattle.mcs_check.specs.declared.conditions.Condition.TheVariants.{Compare}
use Rattle.mcs_check.specs.Conditions.{fewer_marks_seen}
use Rattle.mcs_check.proofs.Opening.{opens_after_marks-with_next_open_list, opened-none, opens_after_marks-without_marks, opens_after_marks}
use Rattle.mcs_check.proofs.marks.add_mark_requirement.Goals as goal

pub returns-then-count-eq0 : goal.returns-then-count-eq0
returns-then-count-eq0 c = λ s. opens_after_marks-without_marks c.args.never_lists.now.items c.args.opens.now (length c.args.marks.now) s (omega arith)

pub loop-i-init : goal.loop-i-init
loop-i-init c = λ s. opened-none c.args.never_lists.now.items (length c.args.marks.now) s

pub loop-i-preserved : goal.loop-i-preserved
loop-i-preserved c = λ s.
    let opens = c.args.opens.now in
    let n = length c.args.marks.now in
    let i = c.loop-i.i in
    let element : c.conditions.result.now ≡ get_or opens i [] = c.conditions.ensures ∙ (c.index-opens-i.is ∙ get_or_default opens i c.index-opens-i.result [] c.loop-i-test.true) in
    let made : c.in_ok-with_condition.field-0 ≡ get_or opens i [] ++ Compare (fewer_marks_seen n) ∷ [] =
    c.in_ok-with_condition.ensures
    ∙ ap (λ (cs : List Condition). cs ++ c.fewer_marks_seen.result ∷ []) element
    ∙ ap (λ (x : Condition). get_or opens i [] ++ x ∷ []) (c.fewer_marks_seen.ensures ∙ ap (λ (k : ℕ). Compare (fewer_marks_seen k)) c.count-count.ensures.count) in
    let some : 0 < n = omega arith in
    opens_after_marks-with_next_open_list c.args.never_lists.now.items opens c.loop-i.never_lists.items c.push.new.self.items c.in_ok-with_condition.field-0 i n s c.loop-i-test.true some made c.in_ok-push.ensures.items (c.loop-i.invariant s)

pub returns : goal.returns
returns c = λ s.
    let opens = c.args.opens.now in
    c.loop-i.invariant s
    ∙ ap (λ (xs : List (List Condition)). opens_after_marks c.args.never_lists.now.items xs (length c.args.marks.now) s) (take_all c.loop-i.i opens (omega arith))
