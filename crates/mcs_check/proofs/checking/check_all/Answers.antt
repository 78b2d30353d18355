use Rattle.std.proofs.Common.{◌≡◌, ◌∙◌, ◌++◌, ℕ, List, length, true, take, drop, sym, ap, subst, arith}
use Rattle.std.proofs.Math.Seq.{take-append_seam}
use Rattle.std.proofs.lemmas.List.{length-map}
use Rattle.mcs_check.specs.declared.cells.StateByte.{StateByte}
use Rattle.mcs_check.specs.Cells.{state_byte_value, vector_of}
use Rattle.mcs_check.specs.Conditions.{meets_none}
use Rattle.mcs_check.specs.StateVectors.{IsVectorOf, setting_of}
use Rattle.mcs_check.proofs.Beginning.{is_vector-of_machine_with_highest_keys, outcome-before_keys_set}
use Rattle.mcs_check.proofs.checking.check_all.Goals as goal
use Rattle.mcs_check.proofs.checking.check_all.Goals.{After-wait}

-- the saved state vector identifies the machine with each key at its highest level
starts : (c : After-wait) → (vector : List ℕ) → vector ≡ take c.in_ok-vector.vector.len (c.save.new.vector ++ drop (length c.save.new.vector) c.in_ok-vector.vector.items) → IsVectorOf (setting_of c.set_highest_keys.new.self c.args.limits c.in_ok-layout.layout.items c.args.property) vector c.set_highest_keys.new.self
starts c vector e =
    let m = c.set_highest_keys.new.self in
    let limits = c.args.limits in
    let layout = c.in_ok-layout.layout.items in
    let property = c.args.property in
    let saved : c.save.new.vector ≡ vector_of layout m = c.save.ensures ∙ ap (λ (l : List StateByte). vector_of l m) c.deref.ensures.value in
    let mapped = ap length c.save.ensures ∙ length-map c.deref.result.now (state_byte_value m) in
    let few = c.deref.ensures.len in
    let many = c.len.ensures in
    let made = c.in_ok-vector.ensures.len in
    let len : length c.save.new.vector ≡ c.in_ok-vector.vector.len = omega arith in
    let rest = drop (length c.save.new.vector) c.in_ok-vector.vector.items in
    let whole = subst (λ (n : ℕ). take n (c.save.new.vector ++ rest) ≡ c.save.new.vector) len (take-append_seam c.save.new.vector rest) in
    let cells : vector ≡ vector_of layout m = e ∙ (whole ∙ saved) in
    let property_holds : meets_none property.never_lists m ≡ true = sym c.keeps.ensures ∙ c.if-not-keeps.false in
    is_vector-of_machine_with_highest_keys limits layout property vector c.args.replica m c.set_highest_keys.ensures c.show_state_is_valid.ensures.registers c.show_state_is_valid.ensures.bus property_holds cells

pub search_by_levels-requires-clause-state : goal.search_by_levels-requires-clause-state
search_by_levels-requires-clause-state c = (c.set_highest_keys.new.self, starts (goal.at.search_by_levels-requires-clause-state c).After-wait c.deref-then-wait-gt1.result.now c.deref-then-wait-gt1.ensures.value)

pub search_by_values-requires-clause-state : goal.search_by_values-requires-clause-state
search_by_values-requires-clause-state c = (c.set_highest_keys.new.self, starts (goal.at.search_by_values-requires-clause-state c).After-wait c.deref-else-wait-gt1.result.now c.deref-else-wait-gt1.ensures.value)

pub returns-then-wait-gt1 : goal.returns-then-wait-gt1
returns-then-wait-gt1 c =
    let vector = c.deref-then-wait-gt1.result.now in
    outcome-before_keys_set c.args.limits c.in_ok-layout.layout.items c.args.property vector c.args.replica c.set_highest_keys.new.self c.search_by_levels.result c.set_highest_keys.ensures (starts (goal.at.returns-then-wait-gt1 c).After-wait vector c.deref-then-wait-gt1.ensures.value) c.search_by_levels.ensures

pub returns : goal.returns
returns c =
    let vector = c.deref-else-wait-gt1.result.now in
    outcome-before_keys_set c.args.limits c.in_ok-layout.layout.items c.args.property vector c.args.replica c.set_highest_keys.new.self c.search_by_values.result c.set_highest_keys.ensures (starts (goal.at.returns c).After-wait vector c.deref-else-wait-gt1.ensures.value) c.search_by_values.ensures
