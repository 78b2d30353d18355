use Rattle.std.proofs.Common.{◌≡◌, List, ℕ, length, sym, ap, ◌∙◌, arith}
use Rattle.mcs_search.specs.StateStores.{StateStore}
use Rattle.mcs_search.proofs.Closures.{states-after_first_add}
use Rattle.mcs_search.proofs.searching.Search.begin.Goals as goal

pub invariant_of-result : goal.invariant_of-result
invariant_of-result c =
    let states = states-after_first_add c.args.start.now c.in_ok-visited.visited c.add.new.self c.in_ok-add.field-0 (ap (λ (s : StateStore). s.states) c.in_ok-visited.ensures) c.add.ensures.adds c.in_ok-add.ensures.added in
    let one_state : length c.add.new.self.states ≡ 1 = ap length states in
    let width : c.add.new.self.width ≡ length c.args.start.now = c.add.ensures.adds.width ∙ ap (λ (s : StateStore). s.width) c.in_ok-visited.ensures in
    let max_states = c.requires in
    record {
      not_empty = omega arith;
      below_limit = omega arith;
      within = omega arith;
      max_states = max_states;
      state = c.in_ok-state.ensures.len ∙ sym width;
      into = c.in_ok-into.ensures.len ∙ sym width;
    }

pub returns : goal.returns
returns c =
    let states = states-after_first_add c.args.start.now c.in_ok-visited.visited c.add.new.self c.in_ok-add.field-0 (ap (λ (s : StateStore). s.states) c.in_ok-visited.ensures) c.add.ensures.adds c.in_ok-add.ensures.added in
    ap (λ (ks : List (List ℕ)). record { states = ks; expanded = 0 }) states
