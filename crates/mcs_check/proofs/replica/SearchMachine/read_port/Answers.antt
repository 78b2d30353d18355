use Rattle.std.proofs.Common.{◌≡◌, ◌∙◌, ℕ, length, refl, sym, ap, subst, arith}
use Rattle.mcs_model.specs.declared.regs.Regs.{Regs}
use Rattle.mcs_drive.specs.TrackedMachine.{TrackedMachine, cycled, seen_count_after, condition_holds_at, seen_after_reading}
use Rattle.mcs_check.specs.declared.reading.InputSource.TheVariants.{Port}
use Rattle.mcs_check.specs.ReadPoints.{HasRead, with_seen}
use Rattle.mcs_check.specs.Conditions.{observer_of_property}
use Rattle.mcs_check.proofs.Keeping.{cycle-keeps, keeps-same}
use Rattle.mcs_check.proofs.Memory.{cycle-memory, memory-same, reading-writes_no_memory}
use Rattle.mcs_check.proofs.ValuesRead.{port-read, with_accumulator}
use Rattle.mcs_check.proofs.replica.SearchMachine.read_port.Goals as goal

pub returns-clause-read : goal.returns-clause-read
returns-clause-read c =
    let s = c.args.self.now in
    let w = observer_of_property c.args.property.now in
    let seen : c.seen_after-seen.result ≡ seen_after_reading w s c.args.value =
    c.seen_after-seen.ensures ∙ ap (λ b. seen_count_after (length w.marks) s.2.seen b c.shows_next_mark-shown.result) c.opens.ensures
    ∙ ap (seen_count_after (length w.marks) s.2.seen (condition_holds_at w s)) c.shows_next_mark-shown.ensures in
    let went : (c.self.inside.cpu, c.self.inside.rig, (record { calls = c.self.inside.calls; elapsed = c.self.inside.elapsed; seen = c.self.inside.seen })) ≡ with_seen (seen_after_reading w s c.args.value) (cycled w s) =
    c.self.view_is ∙ c.cycle.ensures ∙ ap (λ (n : ℕ). with_seen n (cycled w s)) seen in
    let value : c.low_of.result ≡ c.args.value = c.low_of.ensures ∙ (let small = c.requires.value in omega arith) in
    let set : c.set_acc.new.self ≡ record c.self.inside.cpu { acc = c.args.value } = c.set_acc.ensures ∙ ap (λ (n : ℕ). record c.self.inside.cpu { acc = n }) value in
    subst (λ (t : TrackedMachine). HasRead (observer_of_property c.args.property.now) c.args.value s t)
    (sym (ap (λ (r : Regs). (r, c.self.inside.rig, (record { calls = c.self.inside.calls; elapsed = c.self.inside.elapsed; seen = c.self.inside.seen }))) set ∙ ap (with_accumulator c.args.value) went))
    (port-read (observer_of_property c.args.property.now) c.args.value s c.requires.reads)

pub returns-clause-keeps : goal.returns-clause-keeps
returns-clause-keeps c =
    let s = c.args.self.now in
    keeps-same s.1 s.1 c.self.inside.rig (cycled (observer_of_property c.args.property.now) s).1 refl (ap (λ (m : TrackedMachine). m.1) (c.self.view_is ∙ c.cycle.ensures)) (cycle-keeps (observer_of_property c.args.property.now) s)

pub returns-clause-memory : goal.returns-clause-memory
returns-clause-memory c =
    let s = c.args.self.now in
    let w = observer_of_property c.args.property.now in
    memory-same s.1 s.1 c.self.inside.rig (cycled w s).1 refl (ap (λ (m : TrackedMachine). m.1) (c.self.view_is ∙ c.cycle.ensures)) (cycle-memory w s (reading-writes_no_memory s Port c.requires.reads refl))
