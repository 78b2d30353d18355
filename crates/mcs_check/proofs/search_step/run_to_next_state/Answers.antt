use Rattle.std.proofs.Common.{◌∙◌, ℕ, sym, refl, subst, arith}
use Rattle.mcs_check.specs.Conditions.{meets_none, observer_of_property}
use Rattle.mcs_check.specs.StateVectors.{IsOnBoard, IsVectorOf, setting_of}
use Rattle.mcs_check.specs.Memory.{IsMemoryFrom}
use Rattle.mcs_check.specs.SearchStep.{LeadsIn}
use Rattle.mcs_check.proofs.Ignoring.{conditions-ignore}
use Rattle.mcs_check.proofs.Keeping.{keeps-trans}
use Rattle.mcs_check.proofs.Memory.{has_bytes_from-if_memory_kept, memory-trans}
use Rattle.mcs_check.proofs.Steps.{on-board-kept, property_holds-at_reached_machine, leads-by_read_and_run}
use Rattle.mcs_check.proofs.search_step.run_to_next_state.Goals as goal

pub save_after-requires-clause-memory : goal.save_after-requires-clause-memory
save_after-requires-clause-memory c = λ kept.
    let m = c.reload.new.self in
    let x = c.read.new.self in
    let n = c.run_to_read_point.new.self in
    let parts = c.both-is_kept.ensures kept in
    let memory = memory-trans m.1 x.1 n.1 (c.read.ensures.memory (sym c.is_input.ensures ∙ parts.1)) (c.in-Some.ensures.memory parts.0) in
    has_bytes_from-if_memory_kept m n c.args.layout.now c.args.vector.now c.args.vector.now _ c.reload.ensures.known.split (c.reload.ensures.loaded c.if-not-reload.false) memory (λ k d l is. refl)

pub returns-then-not-read-clause-known : goal.returns-then-not-read-clause-known
returns-then-not-read-clause-known c = record { split = c.reload.ensures.known.split; vector = λ now. absurd (cc) }

pub returns-clause-known : goal.returns-clause-known
returns-clause-known c = record {
  split = subst (IsMemoryFrom c.args.layout.now) (sym c.remember.ensures.front) c.reload.ensures.known.split;
  vector = λ now. c.remember.ensures.vector now ∙ c.save_after.ensures;
}

pub returns-clause-leads : goal.returns-clause-leads
returns-clause-leads c = λ limits highest.
    let start = c.args.replica.now in
    let m = c.reload.new.self in
    let x = c.read.new.self in
    let n = c.run_to_read_point.new.self in
    let p = meets_none c.args.property.now.never_lists in
    let g = setting_of start limits c.args.layout.now c.args.property.now in
    let on : IsOnBoard start.1.board start.1.rom limits.keys m = on-board-kept limits.keys start m c.show_state_is_valid.ensures.registers c.show_state_is_valid.ensures.bus highest c.requires.test c.reload.ensures.keeps in
    let kept = keeps-trans start.1 x.1 n.1 (keeps-trans start.1 m.1 x.1 c.reload.ensures.keeps c.read.ensures.keeps) c.run_to_read_point.ensures.keeps in
    let reaches = c.in-Some.ensures.reaches in
    let next : IsVectorOf g c.save_after.new.into n = record {
      on = on-board-kept limits.keys start n c.show_state_is_valid-2.ensures.registers c.show_state_is_valid-2.ensures.bus highest c.requires.test kept;
      property_holds = property_holds-at_reached_machine (observer_of_property c.args.property.now) p c.in-Some.run'.cycles x n reaches;
      cells = c.save_after.ensures;
    } in
    subst (λ (count : ℕ). LeadsIn g count c.args.vector.now c.args.value c.save_after.new.into) (omega arith)
    (leads-by_read_and_run g c.args.vector.now c.save_after.new.into c.args.value c.in-Some.run'.cycles m x n (conditions-ignore c.args.property.now.never_lists) c.requires.complete on (c.reload.ensures.loaded c.if-not-reload.false) (c.read.ensures.read c.if-not-read.false) reaches next)
