use Rattle.std.proofs.Common.{rules, ◌≡◌, List, [], ◌∷◌, ℕ, length, get_or, refl, sym, ◌∙◌, ap, subst, arith}
use Rattle.std.proofs.lemmas.Result.{on_ok_weaker}
use Rattle.mcs_disk.specs.Disk.{Torn, part, bytes_of}
use Rattle.mcs_journal.specs.File.{Holds, slot_of, slot_selected_by, start_of}
use Rattle.mcs_journal.specs.Writing.{IsArea, other_slot, selector_of}
use Rattle.mcs_journal.specs.declared.slot.Slot.{Slot}
use Rattle.mcs_journal.specs.declared.slot.Slot.TheVariants.{A, B}
use Rattle.mcs_journal.proofs.TwoCommits.{both_steps, first_step}
use Rattle.mcs_journal.proofs.ByteRanges.{byte_of_part}
use Rattle.mcs_journal.proofs.ReplacingContents.{holds_after_torn_area_write, holds_after_torn_selector_write, holds_after_selector_write}
use Rattle.mcs_journal.proofs.writing.replace_contents.Goals as goal

slot_selected_by_its_selector : (slot : Slot) → slot_selected_by (selector_of slot) ≡ slot
slot_selected_by_its_selector A = refl
slot_selected_by_its_selector B = refl

-- an area has 16,385 bytes, so a write of it changes at most 16,385 bytes
area_write_is_torn_by_area_size : (at : ℕ) (snap area f c : List ℕ) → IsArea snap area → Torn at (length area) f c → Torn at 16385 f c
area_write_is_torn_by_area_size at snap area f c is_area torn = subst (λ (n : ℕ). Torn at n f c) is_area.long torn

pub returns-in_err-commit-clause-changes : goal.returns-in_err-commit-clause-changes
returns-in_err-commit-clause-changes g c = λ h durable old_snap records held other.
    let f = bytes_of (g.D.Disk.state c.args.disk.now) in
    let area = c.encode_snapshot.ensures in
    let images = first_step _ _ (λ x. Holds x old_snap records) (λ x. Holds x c.args.snap.now []) c.start.result c.encode_snapshot.new.buffer durable
    (λ x torn. holds_after_torn_area_write f old_snap c.args.snap.now _ records c.start.result held (c.start.ensures ∙ ap start_of other) area x (area_write_is_torn_by_area_size _ _ _ _ _ area torn)) _ (c.commit.ensures.commits h) in
    record { after = search rules; durable = search rules; ticks = search rules; leaves = images }

pub returns-clause-selected : goal.returns-clause-selected
returns-clause-selected g c = λ h.
    let new = g.D.Disk.state c.commit-2.new.disk in
    let last = c.commit-2.ensures.commits (c.commit.ensures.call.honest.1 h) in
    on_ok_weaker _ (λ (here : part 8 1 (bytes_of new) ≡ c.selector.result ∷ []). ap slot_selected_by (sym (byte_of_part 8 1 (bytes_of new) 0 (omega arith)) ∙ ap (λ (l : List ℕ). get_or l 0 0) here ∙ c.selector.ensures) ∙ slot_selected_by_its_selector c.args.other) last.written

pub returns-clause-changes : goal.returns-clause-changes
returns-clause-changes g c = λ h durable old_snap records held other.
    let f = bytes_of (g.D.Disk.state c.args.disk.now) in
    let mid = g.D.Disk.state c.commit.new.disk in
    let h_mid = c.commit.ensures.call.honest.1 h in
    let area = c.encode_snapshot.ensures in
    let step = c.in_ok-commit.ensures.commits h in
    let at : c.start.result ≡ start_of (other_slot (slot_of f)) = c.start.ensures ∙ ap start_of other in
    let first = area_write_is_torn_by_area_size _ _ _ _ _ area step.outside in
    let there : part c.start.result 16385 (bytes_of mid) ≡ c.encode_snapshot.new.buffer = ap (λ (n : ℕ). part c.start.result n (bytes_of mid)) (sym area.long) ∙ step.written in
    let names : slot_selected_by c.selector.result ≡ other_slot (slot_of f) = ap slot_selected_by c.selector.ensures ∙ slot_selected_by_its_selector c.args.other ∙ other in
    both_steps _ mid (λ x. Holds x old_snap records) (λ x. Holds x c.args.snap.now []) c.start.result c.encode_snapshot.new.buffer durable
    (λ x torn. holds_after_torn_area_write f old_snap c.args.snap.now _ records c.start.result held at area x (area_write_is_torn_by_area_size _ _ _ _ _ area torn)) _ _ 8 (c.selector.result ∷ []) _
    (λ x torn. holds_after_torn_selector_write f old_snap c.args.snap.now _ records c.start.result held at area (bytes_of mid) x first there torn)
    (λ here torn. holds_after_selector_write f old_snap c.args.snap.now _ records c.start.result held at area (bytes_of mid) _ first there torn _ here names)
    step (c.commit-2.ensures.commits h_mid)

pub returns-in_err-commit-clause-calls : goal.returns-in_err-commit-clause-calls
returns-in_err-commit-clause-calls g c = search rules

pub returns-clause-calls : goal.returns-clause-calls
returns-clause-calls g c = search rules
