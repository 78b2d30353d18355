use Rattle.std.proofs.Common.{◌≡◌, inr, List, [], ℕ, length, get_or, sym, ◌∙◌, ap, arith}
use Rattle.std.proofs.lemmas.Result.{on_ok_weaker}
use Rattle.mcs_disk.proofs.StretchComposition.{is_later_transitive}
use Rattle.mcs_disk.proofs.CallLaws.{length-bytes_of}
use Rattle.mcs_disk.specs.Disk.{Torn, part, bytes_of}
use Rattle.mcs_journal.specs.File.{Holds, slot_of, slot_selected_by, start_of}
use Rattle.mcs_journal.specs.Writing.{IsArea}
use Rattle.mcs_journal.specs.declared.format.TheConstants.{FIRST_HEADER}
use Rattle.mcs_journal.specs.declared.slot.Slot.TheVariants.{A}
use Rattle.mcs_journal.proofs.Contents.{file_holds_snapshot_of_area}
use Rattle.mcs_journal.proofs.ByteRanges.{byte_of_part, part_of_part, part_unchanged_outside_write}
use Rattle.mcs_journal.proofs.writing.write_first.Goals as goal

slot_of_first_header : (c : List ℕ) → part 0 16 c ≡ FIRST_HEADER → slot_of c ≡ A
slot_of_first_header c header = ap slot_selected_by (sym (byte_of_part 0 16 c 8 (omega arith)) ∙ ap (λ (l : List ℕ). get_or l 8 0) header)

-- a file with an area in its first slot holds the snapshot of the area and no records, once the
-- first header is written
file_holds_snapshot_after_first_header : (g c snap area : List ℕ) → length c ≡ 163856 → IsArea snap area → part 16 16385 g ≡ area → Torn 0 16 g c → part 0 16 c ≡ FIRST_HEADER → Holds c snap []
file_holds_snapshot_after_first_header g c snap area long is_area there torn header =
    file_holds_snapshot_of_area c snap area long
    (sym (part_of_part 0 16 0 8 16 c (omega arith) (omega arith)) ∙ ap (part 0 8) header)
    (sym (part_of_part 0 16 9 7 7 c (omega arith) (omega arith)) ∙ ap (part 9 7) header)
    is_area (ap (λ (s : ℕ). part s 16385 c) (ap start_of (slot_of_first_header c header)) ∙ part_unchanged_outside_write 0 16 16 16385 g c torn (inr (omega arith)) ∙ there)

pub returns-clause-written : goal.returns-clause-written
returns-clause-written g c = λ h.
    let mid = c.commit.ensures.call.honest.1 h in
    let area = c.encode_snapshot.ensures in
    let step = c.in_ok-commit.ensures.commits h in
    let last = c.commit-2.ensures.commits mid in
    let there : part 16 16385 (bytes_of (g.D.Disk.state c.commit.new.disk)) ≡ c.encode_snapshot.new.buffer = (λ k. part (sym c.start.ensures k) (sym area.long k) (bytes_of (g.D.Disk.state c.commit.new.disk))) ∙ step.written in
    on_ok_weaker _ (λ (here : part 0 16 (bytes_of (g.D.Disk.state c.commit-2.new.disk)) ≡ FIRST_HEADER).
    file_holds_snapshot_after_first_header _ _ _ _ (length-bytes_of (g.D.Disk.state c.commit-2.new.disk) ∙ ap length (c.commit-2.ensures.call.start ∙ c.commit.ensures.call.start) ∙ c.requires.size) area there last.outside here) last.written

pub returns-clause-selected : goal.returns-clause-selected
returns-clause-selected g c = λ h. on_ok_weaker _ (λ (here : part 0 16 (bytes_of (g.D.Disk.state c.commit-2.new.disk)) ≡ FIRST_HEADER). slot_of_first_header _ here) (c.commit-2.ensures.commits (c.commit.ensures.call.honest.1 h)).written

pub returns-clause-is_later : goal.returns-clause-is_later
returns-clause-is_later g c = λ h. is_later_transitive _ _ _ (c.commit.ensures.commits h).later (c.commit-2.ensures.commits (c.commit.ensures.call.honest.1 h)).later
