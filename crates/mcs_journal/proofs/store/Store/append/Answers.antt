use Rattle.mcs_disk.specs.CallList.{unsynced_writes}
use Rattle.mcs_journal.proofs.StoreMethodCalls.{append_at_most_one_unsynced}
use Rattle.std.proofs.Common.{◌≡◌, ◌+◌, List, [], ◌∷◌, ◌++◌, ℕ, length, sym, ◌∙◌, ap, subst, arith, IsTrue, length-take, length-append, length-drop}
use Rattle.mcs_disk.specs.Disk.{DiskState, bytes_of}
use Rattle.mcs_journal.specs.Store.{StoreView, IsIntactStore}
use Rattle.mcs_journal.specs.File.{Holds, HasRoom, slot_selected_by, frames_of, frame_of, start_of}
use Rattle.mcs_journal.specs.Writing.{IsCommitOffset}
use Rattle.mcs_journal.specs.declared.slot.Slot.{Slot}
use Rattle.mcs_journal.proofs.UniqueContents.{records_are_unique}
use Rattle.mcs_journal.proofs.Contents.{start_bounds}
use Rattle.mcs_journal.proofs.Logs.{frames_of-push, length-frame_of}
use Rattle.mcs_journal.proofs.store.Store.append.Goals as goal

-- `start + 16384 + used` is the offset of the commit byte that ends the log
commit_offset_of_intact_store : (disk : DiskState) (slot : Slot) (start used n : ℕ) (snap : List ℕ) (records : List (List ℕ)) → start ≡ start_of slot → IsIntactStore disk slot used → HasRoom used n → Holds (bytes_of disk) snap records → IsCommitOffset (bytes_of disk) records (start + 16384 + used) n
commit_offset_of_intact_store disk slot start used n snap records at intact room held =
    let same : length (frames_of intact.records) ≡ length (frames_of records) = ap (λ (l : List (List ℕ)). length (frames_of l)) (records_are_unique _ _ _ _ _ intact.holds held) in
    let place = at ∙ sym (ap start_of intact.active) in
    record { at = omega (arith, same, intact.count, place); room = omega (arith, same, intact.count, room) }

pub returns-in-Ok-clause-appends : goal.returns-in-Ok-clause-appends
returns-in-Ok-clause-appends g c = rw (← c.self.view_is) (λ h snap records held.
    let live : IsTrue c.self.inside.live = subst (λ (v : StoreView g.row.D.Denot). IsTrue v.live) (sym c.self.view_is) c.requires.live in
    let room : HasRoom c.self.inside.used (length c.args.payload.now) = subst (λ (v : StoreView g.row.D.Denot). HasRoom v.used (length c.args.payload.now)) (sym c.self.view_is) c.requires.room in
    let intact = c.self.invariant.intact live h in
    let changes = c.in-Ok.ensures.changes h intact.durable snap records held (commit_offset_of_intact_store _ _ _ _ _ snap records c.start.ensures intact room held) in
    record { after = changes.after; durable = changes.durable; ticks = changes.ticks; leaves = changes.leaves })

pub returns-in-Err-clause-appends : goal.returns-in-Err-clause-appends
returns-in-Err-clause-appends g c = rw (← c.self.view_is) (λ h snap records held.
    let live : IsTrue c.self.inside.live = subst (λ (v : StoreView g.row.D.Denot). IsTrue v.live) (sym c.self.view_is) c.requires.live in
    let room : HasRoom c.self.inside.used (length c.args.payload.now) = subst (λ (v : StoreView g.row.D.Denot). HasRoom v.used (length c.args.payload.now)) (sym c.self.view_is) c.requires.room in
    let intact = c.self.invariant.intact live h in
    let changes = c.add_record.ensures.changes h intact.durable snap records held (commit_offset_of_intact_store _ _ _ _ _ snap records c.start.ensures intact room held) in
    record { after = tt; durable = tt; ticks = tt; leaves = changes.leaves })

pub invariant_of-self : goal.invariant_of-self
invariant_of-self g c =
    let live : IsTrue c.self.inside.live = subst (λ (v : StoreView g.row.D.Denot). IsTrue v.live) (sym c.self.view_is) c.requires.live in
    let room : HasRoom c.self.inside.used (length c.args.payload.now) = subst (λ (v : StoreView g.row.D.Denot). HasRoom v.used (length c.args.payload.now)) (sym c.self.view_is) c.requires.room in
    record {
      disk_size = ap length c.add_record.ensures.call.start ∙ c.self.invariant.disk_size;
      within = omega (arith, room);
      room = simp (length-take, length-append, length-drop) (omega (arith, c.deref_mut.ensures.len, ap length c.deref_mut.ensures.value, c.add_record.auto.buffer, c.self.invariant.room));
      synced = λ alive. ap unsynced_writes c.in-Ok.ensures.calls.all;
      intact = λ alive h.
          let bounds = start_bounds c.self.inside.slot in
          let was_honest = c.add_record.ensures.call.honest.0 h in
          let intact = c.self.invariant.intact live was_honest in
          let changes = c.in-Ok.ensures.changes was_honest intact.durable intact.snap intact.records intact.holds (commit_offset_of_intact_store _ _ _ _ _ intact.snap intact.records c.start.ensures intact room intact.holds) in
          record {
            durable = changes.durable;
            active = ap slot_selected_by (c.add_record.ensures.selector was_honest (omega (arith, bounds.0, c.start.ensures))) ∙ intact.active;
            snap = intact.snap;
            records = intact.records ++ c.args.payload.now ∷ [];
            holds = changes.after;
            count = omega (arith, intact.count, ap length (frames_of-push intact.records c.args.payload.now), length-append (frames_of intact.records) (frame_of c.args.payload.now), length-frame_of c.args.payload.now);
          };
    }

pub returns-in-Ok-clause-calls : goal.returns-in-Ok-clause-calls
returns-in-Ok-clause-calls g c = rw (← c.self.view_is) (rw (← c.start.ensures) c.in-Ok.ensures.calls)

pub returns-in-Err-clause-calls : goal.returns-in-Err-clause-calls
returns-in-Err-clause-calls g c = rw (← c.self.view_is) (rw (← c.start.ensures) c.in-Err.ensures.calls)

pub returns-in-Ok-clause-one_unsynced : goal.returns-in-Ok-clause-one_unsynced
returns-in-Ok-clause-one_unsynced g c = rw (← c.self.view_is) (
    let live : IsTrue c.self.inside.live = subst (λ (v : StoreView g.row.D.Denot). IsTrue v.live) (sym c.self.view_is) c.requires.live in
    append_at_most_one_unsynced _ (c.self.invariant.synced live) _ _ _ _ c.in-Ok.ensures.calls)

pub returns-in-Err-clause-one_unsynced : goal.returns-in-Err-clause-one_unsynced
returns-in-Err-clause-one_unsynced g c = rw (← c.self.view_is) (
    let live : IsTrue c.self.inside.live = subst (λ (v : StoreView g.row.D.Denot). IsTrue v.live) (sym c.self.view_is) c.requires.live in
    append_at_most_one_unsynced _ (c.self.invariant.synced live) _ _ _ _ c.in-Err.ensures.calls)
