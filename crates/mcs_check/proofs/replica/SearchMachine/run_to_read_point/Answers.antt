use Rattle.std.proofs.Common.{◌≡◌, ◌∙◌, ◌+◌, ◌-◌, ℕ, suc, inl, inr, true, refl, sym, ap, subst, arith}
use Rattle.std.proofs.lemmas.Option.{IfSome_then}
use Rattle.mcs_drive.specs.TrackedMachine.{TrackedMachine, cycled, without_levels}
use Rattle.mcs_check.specs.declared.read_point.Run.{Run}
use Rattle.mcs_check.specs.Conditions.{meets_none, observer_of_property}
use Rattle.mcs_check.specs.ReadPoints.{Reaches}
use Rattle.mcs_check.specs.Scopes.{has_all_lists}
use Rattle.mcs_check.proofs.Going.{RunSoFar, walked-none, walked-more, walked-reaches, walked-keeps}
use Rattle.mcs_check.proofs.Scoping.{beginning-covered, meets_none-if_no_mistake, meets_none_without_mistakes-after_cycle, condition_holds-unchanged_by_cycle}
use Rattle.mcs_check.proofs.Memory.{memory-refl, memory-trans, memory-same, cycle-memory}
use Rattle.mcs_check.proofs.Spinning.{spun-apart, spun-walked}
use Rattle.mcs_check.proofs.replica.SearchMachine.run_to_read_point.Goals as goal

pub loop-init : goal.loop-init
loop-init c = record {
  left = omega arith;
  walked = (let none : 0 ≡ c.args.most - c.args.most = omega arith in subst (λ (n : ℕ). RunSoFar (observer_of_property c.args.property.now) (meets_none c.args.property.now.never_lists) n c.args.self.now c.args.self.now) none (walked-none (observer_of_property c.args.property.now) (meets_none c.args.property.now.never_lists) c.args.self.now));
  known = λ has rest. absurd (cc);
  memory = λ _. memory-refl c.args.self.now.1;
  opening = λ has rest. absurd (cc);
}

pub property_still_holds-requires : goal.property_still_holds-requires
property_still_holds-requires c = λ has rest free. meets_none-if_no_mistake c.scope-scope.result c.args.property.now.never_lists c.loop.self (sym c.is_covered_by-has_all_lists.ensures ∙ has) (c.loop.invariant.known has rest) (sym c.next_cycle_facts-next_cycle_facts.ensures.makes_mistake_in_scope ∙ free)

pub loop-preserved : goal.loop-preserved
loop-preserved c =
    let scope = c.scope-scope.result in
    let never_lists = c.args.property.now.never_lists in
    let w = observer_of_property c.args.property.now in
    let s = c.loop.self in
    let t = c.run_step-left.new.self in
    let before = c.args.most - c.loop.left in
    let after = c.args.most - (c.loop.left - c.run_step-left.result) in
    let so_far = λ (n : ℕ). RunSoFar w (meets_none never_lists) n c.args.self.now t in
    let property_holds = c.property_still_holds.ensures c.if-not-property_still_holds.false in
    let quiet = c.next_cycle_facts-next_cycle_facts.ensures.quiet c.if-next_cycle_facts.false in
    elim c.run_step-left.ensures [
      | inl one ↦ (let e = one.1 in let count : suc before ≡ after = omega arith in record {
        left = omega arith;
        walked = subst so_far count (walked-more w (meets_none never_lists) before c.args.self.now s t c.loop.invariant.walked property_holds quiet e);
        known = λ has rest.
            let same = c.has_changed-changed.ensures rest in
            let seen = same.1.0 ∙ ap (λ (m : TrackedMachine). m.2.seen) c.self.view_is in
            let elapsed = same.1.1 ∙ ap (λ (m : TrackedMachine). m.2.elapsed) c.self.view_is in
            meets_none_without_mistakes-after_cycle (observer_of_property c.args.property.now) scope never_lists s t (sym c.is_covered_by-has_all_lists.ensures ∙ has) seen elapsed (sym c.next_cycle_facts-next_cycle_facts.ensures.changes ∙ same.0) property_holds e;
        memory = λ keeps.
            let parts = c.both-keeps_memory.ensures keeps in
            memory-trans c.args.self.now.1 s.1 t.1 (c.loop.invariant.memory parts.0) (memory-same s.1 s.1 t.1 (cycled w s).1 refl (ap (λ (m : TrackedMachine). m.1) e) (cycle-memory w s (c.next_cycle_facts-next_cycle_facts.ensures.memory parts.1)));
        opening = λ has rest.
            let same = c.has_changed-changed.ensures rest in
            let seen = same.1.0 ∙ ap (λ (m : TrackedMachine). m.2.seen) c.self.view_is in
            let elapsed = same.1.1 ∙ ap (λ (m : TrackedMachine). m.2.elapsed) c.self.view_is in
            c.is_open-is_open.ensures
            ∙ condition_holds-unchanged_by_cycle c.args.property.now scope s t (sym c.is_opening_covered_by-has_opening.ensures ∙ has) seen elapsed (sym c.next_cycle_facts-next_cycle_facts.ensures.changes ∙ same.0) e;
      })
      | inr spun ↦
          let may = c.may_spin-may.ensures.scope spun.0 in
          let room = c.may_spin-may.ensures.left spun.0 in
          let count : before + c.run_step-left.result ≡ after = omega arith in
          let covered = c.both-is_covered.ensures may.0 in
          let beginning = beginning-covered c.args.property.now scope (c.is_beginning_covered_by.ensures covered.1) in
          let has : has_all_lists scope never_lists ≡ true = sym c.is_covered_by-has_all_lists.ensures ∙ covered.0 in
          let rest = sym c.next_cycle_facts-next_cycle_facts.ensures.changes ∙ may.1.1 in
          let sound = sym c.next_cycle_facts-next_cycle_facts.ensures.makes_mistake_in_scope ∙ may.1.0 in
          record {
            left = omega arith;
            walked = subst so_far count (spun-walked w scope never_lists before c.run_step-left.result c.args.self.now s t beginning has rest sound property_holds spun.1 c.loop.invariant.walked);
            known = λ _ _. spun-apart w scope never_lists c.run_step-left.result s t beginning has rest sound property_holds spun.1;
            memory = λ keeps. memory-same c.args.self.now.1 c.args.self.now.1 t.1 s.1 refl (ap (λ (m : TrackedMachine). m.1) spun.1.at) (c.loop.invariant.memory (c.both-keeps_memory.ensures keeps).0);
            opening = λ _ _.
                let closed = spun.1.spins.still.closed in
                c.is_open-is_open.ensures ∙ closed (without_levels s) ∙ sym (closed (without_levels t));
          }
    ]

pub returns-then-left-eq0-clause-reaches : goal.returns-then-left-eq0-clause-reaches
returns-then-left-eq0-clause-reaches c = IfSome_then c.outcome.result c.outcome.ensures (λ run is.
    subst (λ (r : Run). Reaches (observer_of_property c.args.property.now) (meets_none c.args.property.now.never_lists) r.cycles c.args.self.now c.loop.self) (sym is.0)
    (walked-reaches (observer_of_property c.args.property.now) (meets_none c.args.property.now.never_lists) (c.args.most - c.loop.left) c.args.self.now c.loop.self c.loop.invariant.walked is.1))

pub returns-then-left-eq0-clause-keeps : goal.returns-then-left-eq0-clause-keeps
returns-then-left-eq0-clause-keeps c = walked-keeps (observer_of_property c.args.property.now) (meets_none c.args.property.now.never_lists) (c.args.most - c.loop.left) c.args.self.now c.loop.self c.loop.invariant.walked

pub returns-then-not-property_still_holds-clause-keeps : goal.returns-then-not-property_still_holds-clause-keeps
returns-then-not-property_still_holds-clause-keeps c = walked-keeps (observer_of_property c.args.property.now) (meets_none c.args.property.now.never_lists) (c.args.most - c.loop.left) c.args.self.now c.loop.self c.loop.invariant.walked

pub returns-then-next_cycle_facts-clause-reaches : goal.returns-then-next_cycle_facts-clause-reaches
returns-then-next_cycle_facts-clause-reaches c = walked-reaches (observer_of_property c.args.property.now) (meets_none c.args.property.now.never_lists) (c.args.most - c.loop.left) c.args.self.now c.loop.self c.loop.invariant.walked (c.property_still_holds.ensures c.if-not-property_still_holds.false)

pub returns-then-next_cycle_facts-clause-keeps : goal.returns-then-next_cycle_facts-clause-keeps
returns-then-next_cycle_facts-clause-keeps c = walked-keeps (observer_of_property c.args.property.now) (meets_none c.args.property.now.never_lists) (c.args.most - c.loop.left) c.args.self.now c.loop.self c.loop.invariant.walked

pub returns-clause-reaches : goal.returns-clause-reaches
returns-clause-reaches c = IfSome_then c.outcome-2.result c.outcome-2.ensures (λ run is.
    subst (λ (r : Run). Reaches (observer_of_property c.args.property.now) (meets_none c.args.property.now.never_lists) r.cycles c.args.self.now c.loop.self) (sym is.0)
    (walked-reaches (observer_of_property c.args.property.now) (meets_none c.args.property.now.never_lists) (c.args.most - c.loop.left) c.args.self.now c.loop.self c.loop.invariant.walked is.1))

pub returns-clause-keeps : goal.returns-clause-keeps
returns-clause-keeps c = walked-keeps (observer_of_property c.args.property.now) (meets_none c.args.property.now.never_lists) (c.args.most - c.loop.left) c.args.self.now c.loop.self c.loop.invariant.walked

pub returns-then-left-eq0-clause-memory : goal.returns-then-left-eq0-clause-memory
returns-then-left-eq0-clause-memory c = IfSome_then c.outcome.result c.outcome.ensures (λ run is yes. c.loop.invariant.memory (ap (λ (r : Run). r.keeps_memory) (sym is.0) ∙ yes))

pub returns-clause-memory : goal.returns-clause-memory
returns-clause-memory c = IfSome_then c.outcome-2.result c.outcome-2.ensures (λ run is yes. c.loop.invariant.memory (ap (λ (r : Run). r.keeps_memory) (sym is.0) ∙ yes))
