use Rattle.std.proofs.Common.{◌≡◌, ◌∙◌, ℕ, false, refl, sym, ap, subst, arith}
use Rattle.mcs_model.specs.Bus.{BusState}
use Rattle.mcs_drive.specs.TrackedMachine.{TrackedMachine, without_levels, cycled, shows_next_mark}
use Rattle.mcs_check.specs.declared.reading.InputSource.TheVariants.{Test}
use Rattle.mcs_check.specs.Conditions.{observer_of_property}
use Rattle.mcs_check.specs.Memory.{cycle_writes_memory}
use Rattle.mcs_check.proofs.Keeping.{cycle-keeps}
use Rattle.mcs_check.proofs.Memory.{cycle-memory, next_op-at_any_level, reading-writes_no_memory}
use Rattle.mcs_check.proofs.ValuesRead.{has_read-by_jcn, jcn_shows_no_next_mark-at_any_level}
use Rattle.mcs_check.proofs.replica.SearchMachine.read_test.Goals as goal

pub cycle_without_mark-requires-clause-unseen : goal.cycle_without_mark-requires-clause-unseen
cycle_without_mark-requires-clause-unseen c = λ n.
    let s = c.args.self.now in
    let w = observer_of_property c.args.property.now in
    let value = c.args.value in
    let level : c.low_of.result ≡ value = c.low_of.ensures ∙ (let small = c.requires.value in omega arith) in
    let set : (c.self.inside.cpu, c.set_test.new.self, (record { calls = c.self.inside.calls; elapsed = c.self.inside.elapsed; seen = c.self.inside.seen })) ≡ (s.0, record s.1 { test = value }, s.2) =
    ap (λ (r : BusState). (c.self.inside.cpu, r, (record { calls = c.self.inside.calls; elapsed = c.self.inside.elapsed; seen = c.self.inside.seen }))) (c.set_test.ensures ∙ ap (λ (n : ℕ). record c.self.inside.rig { test = n }) level)
    ∙ ap (λ (m : TrackedMachine). (m.0, record m.1 { test = value }, m.2)) c.self.view_is in
    subst (λ (t : TrackedMachine). shows_next_mark w t n ≡ false) (sym set) (jcn_shows_no_next_mark-at_any_level w s value n c.requires.reads)

pub returns-clause-read : goal.returns-clause-read
returns-clause-read c =
    let s = c.args.self.now in
    let value = c.args.value in
    let level : c.low_of.result ≡ value = c.low_of.ensures ∙ (let small = c.requires.value in omega arith) in
    let set : (c.self.inside.cpu, c.set_test.new.self, (record { calls = c.self.inside.calls; elapsed = c.self.inside.elapsed; seen = c.self.inside.seen })) ≡ (s.0, record s.1 { test = value }, s.2) =
    ap (λ (r : BusState). (c.self.inside.cpu, r, (record { calls = c.self.inside.calls; elapsed = c.self.inside.elapsed; seen = c.self.inside.seen }))) (c.set_test.ensures ∙ ap (λ (n : ℕ). record c.self.inside.rig { test = n }) level)
    ∙ ap (λ (m : TrackedMachine). (m.0, record m.1 { test = value }, m.2)) c.self.view_is in
    let went : (c.self-2.inside.cpu, c.self-2.inside.rig, (record { calls = c.self-2.inside.calls; elapsed = c.self-2.inside.elapsed; seen = c.self-2.inside.seen })) ≡ cycled (observer_of_property c.args.property.now) (s.0, record s.1 { test = value }, s.2) = c.self-2.view_is ∙ c.cycle_without_mark.ensures ∙ ap (cycled (observer_of_property c.args.property.now)) set in
    has_read-by_jcn (observer_of_property c.args.property.now) value s (c.self-2.inside.cpu, c.set_test-2.new.self, (record { calls = c.self-2.inside.calls; elapsed = c.self-2.inside.elapsed; seen = c.self-2.inside.seen })) c.show_state_is_valid.ensures.bus.board.valid c.requires.reads
    (ap (λ (r : BusState). without_levels (c.self-2.inside.cpu, r, (record { calls = c.self-2.inside.calls; elapsed = c.self-2.inside.elapsed; seen = c.self-2.inside.seen }))) c.set_test-2.ensures ∙ ap without_levels went)

pub returns-clause-keeps : goal.returns-clause-keeps
returns-clause-keeps c =
    let s = c.args.self.now in
    let value = c.args.value in
    let level : c.low_of.result ≡ value = c.low_of.ensures ∙ (let small = c.requires.value in omega arith) in
    let set : (c.self.inside.cpu, c.set_test.new.self, (record { calls = c.self.inside.calls; elapsed = c.self.inside.elapsed; seen = c.self.inside.seen })) ≡ (s.0, record s.1 { test = value }, s.2) =
    ap (λ (r : BusState). (c.self.inside.cpu, r, (record { calls = c.self.inside.calls; elapsed = c.self.inside.elapsed; seen = c.self.inside.seen }))) (c.set_test.ensures ∙ ap (λ (n : ℕ). record c.self.inside.rig { test = n }) level)
    ∙ ap (λ (m : TrackedMachine). (m.0, record m.1 { test = value }, m.2)) c.self.view_is in
    let went : (c.self-2.inside.cpu, c.self-2.inside.rig, (record { calls = c.self-2.inside.calls; elapsed = c.self-2.inside.elapsed; seen = c.self-2.inside.seen })) ≡ cycled (observer_of_property c.args.property.now) (s.0, record s.1 { test = value }, s.2) = c.self-2.view_is ∙ c.cycle_without_mark.ensures ∙ ap (cycled (observer_of_property c.args.property.now)) set in
    let k = cycle-keeps (observer_of_property c.args.property.now) (s.0, record s.1 { test = value }, s.2) in
    record {
      board = ap (λ (b : BusState). b.board) c.set_test-2.ensures ∙ ap (λ (m : TrackedMachine). m.1.board) went ∙ k.board;
      rom = ap (λ (b : BusState). b.rom) c.set_test-2.ensures ∙ ap (λ (m : TrackedMachine). m.1.rom) went ∙ k.rom;
      keys = ap (λ (b : BusState). b.keys) c.set_test-2.ensures ∙ ap (λ (m : TrackedMachine). m.1.keys) went ∙ k.keys;
      test = ap (λ (b : BusState). b.test) c.set_test-2.ensures ∙ c.test_level-level.ensures ∙ ap (λ (m : TrackedMachine). m.1.test) c.self.view_is;
    }

pub returns-clause-memory : goal.returns-clause-memory
returns-clause-memory c =
    let s = c.args.self.now in
    let value = c.args.value in
    let level : c.low_of.result ≡ value = c.low_of.ensures ∙ (let small = c.requires.value in omega arith) in
    let set : (c.self.inside.cpu, c.set_test.new.self, (record { calls = c.self.inside.calls; elapsed = c.self.inside.elapsed; seen = c.self.inside.seen })) ≡ (s.0, record s.1 { test = value }, s.2) =
    ap (λ (r : BusState). (c.self.inside.cpu, r, (record { calls = c.self.inside.calls; elapsed = c.self.inside.elapsed; seen = c.self.inside.seen }))) (c.set_test.ensures ∙ ap (λ (n : ℕ). record c.self.inside.rig { test = n }) level)
    ∙ ap (λ (m : TrackedMachine). (m.0, record m.1 { test = value }, m.2)) c.self.view_is in
    let went : (c.self-2.inside.cpu, c.self-2.inside.rig, (record { calls = c.self-2.inside.calls; elapsed = c.self-2.inside.elapsed; seen = c.self-2.inside.seen })) ≡ cycled (observer_of_property c.args.property.now) (s.0, record s.1 { test = value }, s.2) = c.self-2.view_is ∙ c.cycle_without_mark.ensures ∙ ap (cycled (observer_of_property c.args.property.now)) set in
    let k = cycle-memory (observer_of_property c.args.property.now) (s.0, record s.1 { test = value }, s.2) (ap cycle_writes_memory (next_op-at_any_level s value) ∙ reading-writes_no_memory s Test c.requires.reads refl) in
    record {
      ram = ap (λ (b : BusState). b.ram) c.set_test-2.ensures ∙ ap (λ (m : TrackedMachine). m.1.ram) went ∙ k.ram;
      status = ap (λ (b : BusState). b.status) c.set_test-2.ensures ∙ ap (λ (m : TrackedMachine). m.1.status) went ∙ k.status;
    }
