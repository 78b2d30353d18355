use Rattle.mcs_disk.specs.CallList.{unsynced_writes}
use Rattle.mcs_journal.proofs.StoreMethodCalls.{replace_at_most_one_unsynced}
use Rattle.std.proofs.Common.{[], length, refl, sym, ◌∙◌, ap, subst, arith, IsTrue, length-take, length-append, length-drop, rules}
use Rattle.mcs_journal.specs.Store.{StoreView}
use Rattle.mcs_journal.specs.Writing.{other_slot}
use Rattle.mcs_journal.proofs.store.Store.replace.Goals as goal

pub returns-in-Ok-clause-replaces : goal.returns-in-Ok-clause-replaces
returns-in-Ok-clause-replaces g c = rw (← c.self.view_is) (λ h snap records held.
    let live : IsTrue c.self.inside.live = subst (λ (v : StoreView g.row.D.Denot). IsTrue v.live) (sym c.self.view_is) c.requires.live in
    let intact = c.self.invariant.intact live h in
    let changes = c.in-Ok.ensures.changes h intact.durable snap records held (c.other-other.ensures ∙ sym (ap other_slot intact.active)) in
    record { after = changes.after; durable = changes.durable; ticks = changes.ticks; leaves = changes.leaves })

pub returns-in-Err-clause-replaces : goal.returns-in-Err-clause-replaces
returns-in-Err-clause-replaces g c = rw (← c.self.view_is) (λ h snap records held.
    let live : IsTrue c.self.inside.live = subst (λ (v : StoreView g.row.D.Denot). IsTrue v.live) (sym c.self.view_is) c.requires.live in
    let intact = c.self.invariant.intact live h in
    let changes = c.replace_contents.ensures.changes h intact.durable snap records held (c.other-other.ensures ∙ sym (ap other_slot intact.active)) in
    record { after = tt; durable = tt; ticks = tt; leaves = changes.leaves })

pub invariant_of-self : goal.invariant_of-self
invariant_of-self g c = record {
  disk_size = ap length c.replace_contents.ensures.call.start ∙ c.self.invariant.disk_size;
  within = omega arith;
  room = simp (length-take, length-append, length-drop) (omega (arith, c.deref_mut.ensures.len, ap length c.deref_mut.ensures.value, c.replace_contents.auto.buffer, c.self.invariant.room));
  synced = λ alive. ap unsynced_writes c.in-Ok.ensures.calls.makes_calls.all;
  intact = λ alive h.
      let live : IsTrue c.self.inside.live = subst (λ (v : StoreView g.row.D.Denot). IsTrue v.live) (sym c.self.view_is) c.requires.live in
      let was_honest = c.replace_contents.ensures.call.honest.0 h in
      let intact = c.self.invariant.intact live was_honest in
      let changes = c.in-Ok.ensures.changes was_honest intact.durable intact.snap intact.records intact.holds (c.other-other.ensures ∙ sym (ap other_slot intact.active)) in
      record {
        durable = changes.durable;
        active = c.in-Ok.ensures.selected was_honest;
        snap = c.args.snap.now;
        records = [];
        holds = changes.after;
        count = refl;
      };
}

pub returns-in-Ok-clause-calls : goal.returns-in-Ok-clause-calls
returns-in-Ok-clause-calls g c = rw (← c.self.view_is) (rw (← c.other-other.ensures) c.in-Ok.ensures.calls)

pub returns-in-Err-clause-calls : goal.returns-in-Err-clause-calls
returns-in-Err-clause-calls g c = rw (← c.self.view_is) (rw (← c.other-other.ensures) c.in-Err.ensures.calls)

pub returns-in-Ok-clause-one_unsynced : goal.returns-in-Ok-clause-one_unsynced
returns-in-Ok-clause-one_unsynced g c = rw (← c.self.view_is) (
    let live : IsTrue c.self.inside.live = subst (λ (v : StoreView g.row.D.Denot). IsTrue v.live) (sym c.self.view_is) c.requires.live in
    replace_at_most_one_unsynced _ (c.self.invariant.synced live) _ _ _ _ c.in-Ok.ensures.calls)

pub returns-in-Err-clause-one_unsynced : goal.returns-in-Err-clause-one_unsynced
returns-in-Err-clause-one_unsynced g c = rw (← c.self.view_is) (
    let live : IsTrue c.self.inside.live = subst (λ (v : StoreView g.row.D.Denot). IsTrue v.live) (sym c.self.view_is) c.requires.live in
    replace_at_most_one_unsynced _ (c.self.invariant.synced live) _ _ _ _ c.in-Err.ensures.calls)

pub returns-in-Ok-clause-slot : goal.returns-in-Ok-clause-slot
returns-in-Ok-clause-slot g c = search rules
