use Rattle.std.proofs.Common.{◌∙◌, ◌&&◌, Bool, Vec, Global, length, map, nat_lt, not, ap}
use Rattle.mcs_check.specs.declared.conditions.Condition.{Condition}
use Rattle.mcs_check.specs.Conditions.{meets_none}
use Rattle.mcs_prove.specs.Questions.{is_within_limit}
use Rattle.mcs_prove.proofs.Proved.{mark_requirement}
use Rattle.mcs_prove.proofs.proving.never_conjunctions.Goals as goal

pub returns : goal.returns
returns c = λ s.
    let never_lists = map (λ (n : Vec Condition Global). n.items) c.args.never_lists.items in
    let opens = c.args.opens.now in
    let marks = c.args.marks.now in
    c.in_ok-add_mark_requirement.ensures s
    ∙ ap (λ (b : Bool). b && not (not (meets_none opens s) && nat_lt s.2.seen (length marks))) (c.in_ok-conjunctions.ensures s)
    ∙ ap (λ (b : Bool). (meets_none never_lists s && is_within_limit c.args.limit s) && b) (mark_requirement opens marks s)
