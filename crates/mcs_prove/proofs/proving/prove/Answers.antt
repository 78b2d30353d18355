use Rattle.std.proofs.Common.{◌≡◌, ◌∙◌, List, [], Vec, Global, map, ap, subst}
use Rattle.mcs_drive.specs.DrivenRuns.{InputLimits}
use Rattle.mcs_drive.specs.TrackedMachine.{TrackedMachine}
use Rattle.mcs_check.specs.declared.conditions.Condition.{Condition}
use Rattle.mcs_check.specs.Conditions.{PropertyConditions, meets_none, observer_of_property, observer_of}
use Rattle.mcs_check.specs.OutcomeMeaning.{IsProved}
use Rattle.mcs_prove.specs.AllowedInputs.{limits_of}
use Rattle.mcs_prove.specs.Questions.{keeps_property}
use Rattle.mcs_prove.proofs.Proved.{proved_of_texts-if_proved_of_rig}
use Rattle.mcs_prove.proofs.proving.prove.Goals as goal

pub returns : goal.returns
returns c =
    let lists : Vec (Vec Condition Global) Global → List (List Condition) = λ v. map (λ (n : Vec Condition Global). n.items) v.items in
    let never_lists = c.in_ok-never_lists.never_lists.items in
    let begins = lists c.args.goal.begins in
    let ends = lists c.args.goal.ends in
    let opens = lists c.args.goal.opens in
    let marks = c.args.goal.marks in
    let w = observer_of begins ends opens marks in
    let property_kept = keeps_property w (lists c.args.goal.never_lists) c.args.goal.limit in
    let found = c.in_ok-check_all.field-0 in
    let property : c.of-2.result ≡ record { never_lists = never_lists; begins = begins; ends = ends; opens = opens; marks = marks } =
    c.of-2.ensures
    ∙ ap (λ (b : List (List Condition)). record { never_lists = never_lists; begins = b; ends = c.in_ok-ends.ends.items; opens = c.in_ok-opens.opens.items; marks = marks }) c.in_ok-begins.ensures
    ∙ ap (λ (e : List (List Condition)). record { never_lists = never_lists; begins = begins; ends = e; opens = c.in_ok-opens.opens.items; marks = marks }) c.in_ok-ends.ensures
    ∙ ap (λ (o : List (List Condition)). record { never_lists = never_lists; begins = begins; ends = ends; opens = o; marks = marks }) c.in_ok-opens.ensures in
    let limits = limits_of c.args.inputs.now in
    let on_board : c.in_ok-limits.limits ≡ limits c.in_ok-rig.rig.board = c.in_ok-limits.ensures ∙ ap limits c.board.ensures in
    let proved : IsProved (limits c.in_ok-rig.rig.board) w (meets_none never_lists) c.of.result found =
    subst (λ (l : InputLimits). IsProved l w (meets_none never_lists) c.of.result found) on_board
    (subst (λ (a : PropertyConditions). IsProved c.in_ok-limits.limits (observer_of_property a) (meets_none a.never_lists) c.of.result found) property c.in_ok-check_all.ensures) in
    let equal_properties : (s : TrackedMachine) → meets_none never_lists s ≡ property_kept s = λ s.
    c.in_ok-never_lists.ensures s
    ∙ ap (λ (o : List (List Condition)). keeps_property (observer_of [] [] o marks) (lists c.args.goal.never_lists) c.args.goal.limit s) (c.deref.ensures.value ∙ c.in_ok-opens.ensures) in
    proved_of_texts-if_proved_of_rig c.args.board.now c.args.program.now limits w (meets_none never_lists) property_kept c.new.result c.in_ok-rig.rig found
    c.in_ok-rig.ensures c.new.ensures equal_properties
    (subst (λ (s : TrackedMachine). IsProved (limits c.in_ok-rig.rig.board) w (meets_none never_lists) s found) c.of.ensures proved)
