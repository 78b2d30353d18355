use Rattle.std.proofs.Common.{slice_index, ◌∙◌, subst, arith, below_more}
use Rattle.std.specs.List.{Contains}
use Rattle.std.proofs.lemmas.List.Elements.{All-from_get_or}
use Rattle.mcs_search.specs.Rules.{LeadsInto}
use Rattle.mcs_search.specs.Verdicts.{IsAddOutcome}
use Rattle.mcs_search.specs.declared.visited.AddOutcome.{AddOutcome}
use Rattle.mcs_search.proofs.Closures.{grows-if_adds, grows-trans, leads_into-after_growth, all_states-after_add}
use Rattle.mcs_search.proofs.expanding.expand_state.Goals.{in-New, in-Known}
use Rattle.mcs_search.proofs.expanding.expand_state.Goals as goal

pub loop-i-preserved : goal.loop-i-preserved
loop-i-preserved g c =
    let i = c.loop-i.invariant in
    let k = c.in-Some-true in
    let state = c.args.state.now in
    let into = c.apply_choice.new.into in
    let old = c.loop-i.visited in
    let new = c.add.new.self in
    let choice = slice_index c.args.choices.now c.loop-i.i in
    let r = g.S.System.rules (g.S.System.setting c.args.system.now) in
    let is_state_into = subst (λ s. (g.S.System.rules s).is_state into) i.setting (k.ensures.state k.field-0-test) in
    let leads = subst (λ s. (g.S.System.rules s).leads state choice into) i.setting (k.ensures.leads k.field-0-test) in
    let found : Contains new.states into =
    elim c.match-branch-2.branch [
      | in-New w ↦ subst (λ (a : AddOutcome). IsAddOutcome c.args.max_states old.states new.states into a) w.in-New.is c.in_ok-add.ensures.added
      | in-Known w ↦ subst (λ (a : AddOutcome). IsAddOutcome c.args.max_states old.states new.states into a) w.in-Known.is c.in_ok-add.ensures.added
    ] in
    let grows = grows-if_adds c.add.ensures.adds in
    record {
      setting = c.apply_choice.ensures.setting ∙ i.setting;
      grows = grows-trans i.grows grows;
      states = all_states-after_add r.is_state i.states is_state_into c.add.ensures.adds;
      expanded = below_more _ _ (λ j h. leads_into-after_growth r state (slice_index c.args.choices.now j) grows (i.expanded j h)) (into, leads, found);
      below_limit = c.add.ensures.below_limit;
      into = c.apply_choice.auto.into ∙ i.into;
    }

pub returns-clause-outcome : goal.returns-clause-outcome
returns-clause-outcome g c =
    let r = g.S.System.rules (g.S.System.setting c.args.system.now) in
    All-from_get_or (LeadsInto r c.loop-i.visited.states c.args.state.now) c.args.choices.now 0 (λ k h. c.loop-i.invariant.expanded k (let t = c.loop-i-test.false in omega arith))
