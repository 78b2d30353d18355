use Rattle.std.proofs.Common.{◌≡◌, ◌∙◌, ℕ, List, true, get_or, inl, inr, slice_index, refl, sym, ap, subst, arith, below_more, rules}
use Rattle.std.proofs.lemmas.List.{get_or_default}
use Rattle.std.proofs.lemmas.Bool.{cases_lt}
use Rattle.mcs_check.specs.StateVectors.{KeepsBoardAndInputs}
use Rattle.mcs_check.specs.Memory.{is_memory_byte}
use Rattle.mcs_check.proofs.Keeping.{keeps-refl, keeps-trans}
use Rattle.mcs_check.proofs.Memory.{has_bytes_from-if_memory_kept, vector_of_machine-if_all_bytes, memory-refl, memory-same, memory-trans}
use Rattle.mcs_check.proofs.replica.SearchMachine.set_changed_cells.Goals as goal

pub loop-i-init : goal.loop-i-init
loop-i-init c = record { keeps = keeps-refl c.args.self.now.1; memory = λ _. memory-refl c.args.self.now.1; current = λ h. h; equal = λ _ k d below. absurd (omega arith) }

pub loop-i-preserved : goal.loop-i-preserved
loop-i-preserved c = record {
  keeps = keeps-trans c.args.self.now.1 c.loop-i.self.1 c.change_byte-is_kept.new.self.1 c.loop-i.invariant.keeps c.change_byte-is_kept.ensures.keeps;
  memory = λ kept. memory-trans c.args.self.now.1 c.loop-i.self.1 c.change_byte-is_kept.new.self.1 (c.loop-i.invariant.memory (c.both-keeps_memory.ensures kept).0) (c.change_byte-is_kept.ensures.memory (c.both-keeps_memory.ensures kept).1);
  current = λ kept. c.loop-i.invariant.current (c.both-keeps_memory.ensures kept).0;
  equal = λ kept k d. below_more (λ (j : ℕ). is_memory_byte (get_or c.args.layout.now j d) ≡ true → slice_index c.args.last.now.bytes.items j ≡ slice_index c.args.vector.now j) c.loop-i.i
      (λ j l. c.loop-i.invariant.equal (c.both-keeps_memory.ensures kept).0 j d l)
      (λ inside. get_or_default c.args.last.now.bytes.items c.loop-i.i 0 c.index.result.now (omega arith) ∙ (search rules) ∙ c.change_byte-is_kept.ensures.equal (c.both-keeps_memory.ensures kept).1 (ap is_memory_byte (get_or_default c.args.layout.now c.loop-i.i _ d (omega arith)) ∙ inside)) k;
}

pub returns-then-not-keeps_memory-clause-keeps : goal.returns-then-not-keeps_memory-clause-keeps
returns-then-not-keeps_memory-clause-keeps c = subst (KeepsBoardAndInputs c.args.self.now.1) (sym c.set_registers.ensures) c.loop-i.invariant.keeps

pub returns-clause-keeps : goal.returns-clause-keeps
returns-clause-keeps c = subst (KeepsBoardAndInputs c.args.self.now.1) (sym c.set_registers.ensures) c.loop-i.invariant.keeps

pub returns-clause-loaded : goal.returns-clause-loaded
returns-clause-loaded c = λ h.
    let start = c.args.self.now in
    let n = c.set_registers.new.self in
    let layout = c.args.layout.now in
    let vector = c.args.vector.now in
    let kept = c.if-not-keeps_memory.false in
    let memory = memory-same start.1 start.1 n.1 c.loop-i.self.1 refl c.set_registers.ensures (c.loop-i.invariant.memory kept) in
    let known = c.requires.known.vector (c.loop-i.invariant.current kept) in
    vector_of_machine-if_all_bytes n layout vector c.args.last.now.front c.requires.vector (c.matches_first.ensures h)
    (has_bytes_from-if_memory_kept start n layout c.args.last.now.bytes.items vector c.args.last.now.front c.requires.known.split known memory
    (λ k d l inside. elim (cases_lt k c.loop-i.i) [
      | inl below ↦ c.loop-i.invariant.equal kept k d below inside
      | inr rest ↦ sym (ap (λ (xs : List ℕ). slice_index xs k) c.deref.ensures.value) ∙ c.bytes_that_may_differ-i-end.ensures.equal k (omega arith) (omega arith)
    ]))
