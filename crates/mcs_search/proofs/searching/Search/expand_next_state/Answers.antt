use Rattle.std.proofs.Common.{◌≡◌, ◌<◌, ℕ, List, [], length, get_or, sym, ap, ◌∙◌, subst, arith}
use Rattle.std.specs.List.{All}
use Rattle.mcs_search.specs.Rules.{LeadsInto, Closure}
use Rattle.mcs_search.specs.Verdicts.{IsUnderWay, SearchProgress, IsExpandOutcome, start_of}
use Rattle.mcs_search.specs.declared.expanding.ExpandOutcome.{ExpandOutcome}
use Rattle.mcs_search.proofs.Closures.{under_way-after_growth, under_way-after_next_state_expanded, closure-if_all_expanded}
use Rattle.mcs_search.proofs.searching.Search.expand_next_state.Goals as goal

pub returns-then-self-len-2-clause-proved : goal.returns-then-self-len-2-clause-proved
returns-then-self-len-2-clause-proved g c =
    let a = c.self.inside in
    let r = g.S.System.rules (g.S.System.setting c.args.system.now) in
    let u = subst (IsUnderWay r) (sym c.self.view_is) c.requires.under_way in
    let all_expanded : a.expanded ≡ length a.visited.states = (let t = c.if-self-len-2.true in let l = c.len-len.ensures in omega arith) in
    let n : a.expanded ≡ c.len-len.result = all_expanded ∙ sym c.len-len.ensures in
    let is_closure = closure-if_all_expanded r a.visited.states a.expanded c.self.invariant.not_empty all_expanded u in
    let start : get_or a.visited.states 0 [] ≡ start_of c.args.self.now = ap (λ (p : SearchProgress). start_of p) c.self.view_is in
    subst (λ (k : ℕ). Closure r (start_of c.args.self.now) k) n (subst (λ (s : List ℕ). Closure r s a.expanded) start is_closure)

pub returns-in_err-expand_state-clause-under_way : goal.returns-in_err-expand_state-clause-under_way
returns-in_err-expand_state-clause-under_way g c =
    let a = c.self.inside in
    let r = g.S.System.rules (g.S.System.setting c.args.system.now) in
    let u = subst (IsUnderWay r) (sym c.self.view_is) c.requires.under_way in
    let are_states = subst (λ s. All (g.S.System.rules s).is_state c.expand_state.new.visited.states) c.choices.ensures.setting c.expand_state.ensures.states in
    under_way-after_growth r a.expanded c.expand_state.ensures.grows c.self.invariant.within are_states u

pub counterexample-requires : goal.counterexample-requires
counterexample-requires g c =
    let a = c.self.inside in
    let r = g.S.System.rules (g.S.System.setting c.args.system.now) in
    let u = subst (IsUnderWay r) (sym c.self.view_is) c.requires.under_way in
    let are_states = subst (λ s. All (g.S.System.rules s).is_state c.expand_state.new.visited.states) c.choices.ensures.setting c.expand_state.ensures.states in
    let grown = under_way-after_growth r a.expanded c.expand_state.ensures.grows c.self.invariant.within are_states u in
    record { under_way = subst (λ s. IsUnderWay (g.S.System.rules s) (record { states = c.expand_state.new.visited.states; expanded = a.expanded })) (sym (c.expand_state.ensures.setting ∙ c.choices.ensures.setting)) grown }

pub returns-in_err-counterexample-in-Broken-clause-under_way : goal.returns-in_err-counterexample-in-Broken-clause-under_way
returns-in_err-counterexample-in-Broken-clause-under_way g c =
    let a = c.self.inside in
    let r = g.S.System.rules (g.S.System.setting c.args.system.now) in
    let u = subst (IsUnderWay r) (sym c.self.view_is) c.requires.under_way in
    let are_states = subst (λ s. All (g.S.System.rules s).is_state c.expand_state.new.visited.states) c.choices.ensures.setting c.expand_state.ensures.states in
    subst (IsUnderWay r) (sym c.counterexample.ensures.unchanged) (under_way-after_growth r a.expanded c.expand_state.ensures.grows c.self.invariant.within are_states u)

pub returns-in_ok-counterexample-in-Broken-clause-under_way : goal.returns-in_ok-counterexample-in-Broken-clause-under_way
returns-in_ok-counterexample-in-Broken-clause-under_way g c =
    let a = c.self.inside in
    let r = g.S.System.rules (g.S.System.setting c.args.system.now) in
    let u = subst (IsUnderWay r) (sym c.self.view_is) c.requires.under_way in
    let are_states = subst (λ s. All (g.S.System.rules s).is_state c.expand_state.new.visited.states) c.choices.ensures.setting c.expand_state.ensures.states in
    subst (IsUnderWay r) (sym c.counterexample.ensures.unchanged) (under_way-after_growth r a.expanded c.expand_state.ensures.grows c.self.invariant.within are_states u)

pub returns-in-TooMany-clause-under_way : goal.returns-in-TooMany-clause-under_way
returns-in-TooMany-clause-under_way g c =
    let a = c.self.inside in
    let r = g.S.System.rules (g.S.System.setting c.args.system.now) in
    let u = subst (IsUnderWay r) (sym c.self.view_is) c.requires.under_way in
    let are_states = subst (λ s. All (g.S.System.rules s).is_state c.expand_state.new.visited.states) c.choices.ensures.setting c.expand_state.ensures.states in
    under_way-after_growth r a.expanded c.expand_state.ensures.grows c.self.invariant.within are_states u

pub returns-in-GaveUp-clause-under_way : goal.returns-in-GaveUp-clause-under_way
returns-in-GaveUp-clause-under_way g c =
    let a = c.self.inside in
    let r = g.S.System.rules (g.S.System.setting c.args.system.now) in
    let u = subst (IsUnderWay r) (sym c.self.view_is) c.requires.under_way in
    let are_states = subst (λ s. All (g.S.System.rules s).is_state c.expand_state.new.visited.states) c.choices.ensures.setting c.expand_state.ensures.states in
    under_way-after_growth r a.expanded c.expand_state.ensures.grows c.self.invariant.within are_states u

pub returns-in-All-clause-under_way : goal.returns-in-All-clause-under_way
returns-in-All-clause-under_way g c =
    let a = c.self.inside in
    let r = g.S.System.rules (g.S.System.setting c.args.system.now) in
    let u = subst (IsUnderWay r) (sym c.self.view_is) c.requires.under_way in
    let states = c.expand_state.new.visited.states in
    let state = get_or a.visited.states a.expanded [] in
    let are_states = subst (λ s. All (g.S.System.rules s).is_state states) c.choices.ensures.setting c.expand_state.ensures.states in
    let choices = c.choices.new.into.items in
    let stored : c.copy_from_slice.new.self.items ≡ state = c.copy_from_slice.ensures.items ∙ c.state.ensures.state in
    let covers = subst (λ (k : List ℕ). r.covers k choices) (c.deref.ensures.value ∙ stored) c.in_ok-choices.ensures.covers in
    let outcome = subst (λ (f : ExpandOutcome). IsExpandOutcome (g.S.System.rules (g.S.System.setting c.choices.new.self)) states c.deref-2.result.now c.deref-3.result.now f) c.in-All.is c.in_ok-expand_state.ensures.outcome in
    let choices_lead = subst (λ s. All (LeadsInto (g.S.System.rules s) states c.deref-2.result.now) c.deref-3.result.now) c.choices.ensures.setting outcome in
    let at = subst (λ (k : List ℕ). All (LeadsInto r states k) c.deref-3.result.now) (c.deref-2.ensures.value ∙ stored) choices_lead in
    let leads = subst (λ (cs : List ℕ). All (LeadsInto r states state) cs) c.deref-3.ensures.value at in
    let within : a.expanded < length a.visited.states = (let t = c.if-self-len-2.false in let l = c.len-len.ensures in let w = c.self.invariant.within in omega arith) in
    under_way-after_next_state_expanded r a.expanded c.expand_state.ensures.grows within are_states u (choices, covers, leads)
