-- Lemmas that derive the contents of a file from its parts, and the contents after each of the two
-- writes that add a record.
use Rattle.std.proofs.Common.{◌≡◌, ◌⊎◌, inl, inr, ◌≤◌, ◌+◌, ◌-◌, List, [], ◌∷◌, ◌++◌, ℕ, length, get_or, drop, sym, ◌∙◌, ap, subst, arith, length-append}
use Rattle.std.proofs.lemmas.List.{drop_more}
use Rattle.mcs_disk.specs.Disk.{part, Torn}
use Rattle.mcs_journal.specs.File.{Holds, IsLog, IsRecord, frames_of, be16, slot_at, slot_of, slot_selected_by, start_of}
use Rattle.mcs_journal.specs.Writing.{IsArea, IsCommitOffset}
use Rattle.mcs_journal.specs.declared.format.TheConstants.{NAME, ZEROS}
use Rattle.mcs_journal.specs.declared.slot.Slot.{Slot}
use Rattle.mcs_journal.specs.declared.slot.Slot.TheVariants.{A, B}
use Rattle.mcs_journal.proofs.ByteRanges.{length-part, part_unchanged_outside_write, part_torn_around_write, part_of_part, byte_of_part}
use Rattle.mcs_journal.proofs.Logs.{log_unchanged_after_commit_byte, IsStaged, record_is_staged_by_write, old_or_new_log_after_torn_commit, log_after_torn_commit_byte}

pub start_bounds : (slot : Slot) → (16 ≤ start_of slot) × (start_of slot ≤ 81936)
start_bounds A = (omega arith, omega arith)
start_bounds B = (omega arith, omega arith)

pub active_slot_bounds : (file : List ℕ) → (16 ≤ slot_at file) × (slot_at file ≤ 81936)
active_slot_bounds file = start_bounds (slot_of file)

-- files with the same selector byte have the same active slot
pub slot_unchanged_with_selector : (f c : List ℕ) → get_or c 8 0 ≡ get_or f 8 0 → slot_at c ≡ slot_at f
slot_unchanged_with_selector f c selector = ap (λ (t : ℕ). start_of (slot_selected_by t)) selector

-- Suppose that a file `c` has the header and the active snapshot of the file `f`, and a log of the
-- records `news`. Then `c` holds this snapshot and these records.
pub holds_with_log : (f c snap : List ℕ) (rs news : List (List ℕ)) → Holds f snap rs → length c ≡ length f → slot_at c ≡ slot_at f → part 0 8 c ≡ part 0 8 f → part 9 7 c ≡ part 9 7 f
    → ((lo k : ℕ) → slot_at f ≤ lo → lo + k ≤ slot_at f + 16384 → part lo k c ≡ part lo k f) → IsLog news (part (slot_at f + 16384) 65536 c) → Holds c snap news
holds_with_log f c snap rs news old sized slot name zeros same log = record {
  size = sized ∙ old.size;
  name = name ∙ old.name;
  zeros = zeros ∙ old.zeros;
  within_limit = old.within_limit;
  snap_length = ap (λ (s : ℕ). part s 4 c) slot ∙ same (slot_at f) 4 (omega arith) (omega arith) ∙ old.snap_length;
  snap_bytes = ap (λ (s : ℕ). part (s + 4) (length snap) c) slot ∙ same (slot_at f + 4) (length snap) (omega arith) (omega (arith, old.within_limit)) ∙ old.snap_bytes;
  log = subst (λ (s : ℕ). IsLog news (part (s + 16384) 65536 c)) (sym slot) log;
}

-- a file whose active slot starts with an area (`IsArea`) holds the snapshot of the area and no
-- records
pub file_holds_snapshot_of_area : (c snap area : List ℕ) → length c ≡ 163856 → part 0 8 c ≡ NAME → part 9 7 c ≡ ZEROS → IsArea snap area → part (slot_at c) 16385 c ≡ area → Holds c snap []
file_holds_snapshot_of_area c snap area long name zeros is_area there =
    let log = part (slot_at c + 16384) 65536 c in
    let flat : slot_at c ≡ slot_at c + 0 = omega arith in
    let flat_log : slot_at c + 16384 + 0 ≡ slot_at c + 16384 = omega arith in
    let inner : (j n m : ℕ) → 16385 ≡ j + m → n ≤ m → part (slot_at c + j) n c ≡ part j n area = λ j n m is le. sym (part_of_part (slot_at c) 16385 j n m c is le) ∙ ap (part j n) there in
    let sized : length log ≡ 65536 = length-part (slot_at c + 16384) 65536 c (omega (arith, active_slot_bounds c, long)) in
    let ends_log : get_or log 0 0 ≡ 0 = byte_of_part (slot_at c + 16384) 65536 c 0 (omega arith) ∙ ap (λ (i : ℕ). get_or c i 0) flat_log
    ∙ sym (byte_of_part (slot_at c) 16385 c 16384 (omega arith)) ∙ ap (λ (l : List ℕ). get_or l 16384 0) there ∙ is_area.ends_log in
    record {
      size = long;
      name = name;
      zeros = zeros;
      within_limit = is_area.within_limit;
      snap_length = ap (λ (p : ℕ). part p 4 c) flat ∙ inner 0 4 16385 (omega arith) (omega arith) ∙ is_area.snap_length;
      snap_bytes = inner 4 (length snap) 16381 (omega arith) (omega (arith, is_area.within_limit)) ∙ is_area.snap_bytes;
      log = record { commit_byte = 0; rest = drop 1 log; is = drop_more log 0 0 (omega (arith, sized)) ∙ ap (λ (q : ℕ). q ∷ drop 1 log) ends_log; ends_log = λ no. cc; records_ok = tt };
    }

-- a write inside the active log leaves the snapshot unchanged; the new log determines the records
holds_after_log_write : (f c snap : List ℕ) (rs news : List (List ℕ)) (at n : ℕ) → Holds f snap rs → Torn at n f c → slot_at f + 16384 ≤ at → IsLog news (part (slot_at f + 16384) 65536 c) → Holds c snap news
holds_after_log_write f c snap rs news at n old torn after log =
    let bounds = active_slot_bounds f in
    let same : (lo k : ℕ) → lo + k ≤ at → part lo k c ≡ part lo k f = λ lo k le. part_unchanged_outside_write at n lo k f c torn (inl le) in
    holds_with_log f c snap rs news old torn.size (slot_unchanged_with_selector f c (torn.before 8 (omega (arith, after, bounds.0)))) (same 0 8 (omega (arith, after))) (same 9 7 (omega (arith, after)))
    (λ lo k from to. same lo k (omega (arith, after, to))) log

-- `from` has the length of the record `r`, the record, and a commit byte of 0. The first write puts
-- these bytes after the commit byte at `commit_at`.
module _ (f snap r from : List ℕ) (rs : List (List ℕ)) (commit_at : ℕ) (spells : from ≡ be16 (length r) ++ r ++ 0 ∷ []) (old : Holds f snap rs) (at_commit : IsCommitOffset f rs commit_at (length r)) (valid_length : IsRecord r) where
  abbrev lo : ℕ
  lo = slot_at f + 16384

  long : length from ≡ length r + 3
  long = ap length spells ∙ omega (arith, length-append (be16 (length r) ++ r) (0 ∷ []))

  fits : lo + 65536 ≤ length f
  fits = omega (arith, active_slot_bounds f, old.size)

  log_torn : (c : List ℕ) → Torn (commit_at + 1) (length from) f c → Torn (length (frames_of rs) + 1) (length from) (part lo 65536 f) (part lo 65536 c)
  log_torn c torn = part_torn_around_write (commit_at + 1) (length from) lo 65536 (length (frames_of rs) + 1) f c torn fits (omega (arith, at_commit.at)) (omega (arith, at_commit.room, long))

  -- the first write, even if it is torn, leaves the contents unchanged
  pub holds_after_torn_first_write : (c : List ℕ) → Torn (commit_at + 1) (length from) f c → Holds c snap rs
  holds_after_torn_first_write c torn = holds_after_log_write f c snap rs rs (commit_at + 1) (length from) old torn (omega (arith, at_commit.at)) (log_unchanged_after_commit_byte rs (length from) _ _ old.log (log_torn c torn))

  first_staged : (c : List ℕ) → Torn (commit_at + 1) (length from) f c → part (commit_at + 1) (length from) c ≡ from → IsStaged rs r (part lo 65536 c)
  first_staged c torn here =
      let place : lo + (length (frames_of rs) + 1) ≡ commit_at + 1 = omega (arith, at_commit.at) in
      let m = 65536 - (length (frames_of rs) + 1) in
      record_is_staged_by_write rs r from _ _ spells old.log (log_torn c torn)
      (part_of_part lo 65536 (length (frames_of rs) + 1) (length from) m c (omega (arith, at_commit.room)) (omega (arith, at_commit.room, long)) ∙ ap (λ (p : ℕ). part p (length from) c) place ∙ here)

  -- After the first write, the second write changes only the commit byte. Any value of this byte
  -- gives the old contents or the new contents, and the value 1 gives the new contents.
  module _ (g c : List ℕ) (first : Torn (commit_at + 1) (length from) f g) (here : part (commit_at + 1) (length from) g ≡ from) (torn : Torn commit_at 1 g c) where
    slot_stays : slot_at g ≡ slot_at f
    slot_stays = slot_unchanged_with_selector f g (first.before 8 (omega (arith, at_commit.at, active_slot_bounds f)))

    commit_torn_log : Torn (length (frames_of rs)) 1 (part lo 65536 g) (part lo 65536 c)
    commit_torn_log = part_torn_around_write commit_at 1 lo 65536 (length (frames_of rs)) g c torn (omega (arith, fits, first.size)) at_commit.at (omega (arith, at_commit.room))

    lift : (news : List (List ℕ)) → IsLog news (part lo 65536 c) → Holds c snap news
    lift news log = holds_after_log_write g c snap rs news commit_at 1 (holds_after_torn_first_write g first) torn (omega (arith, at_commit.at, slot_stays)) (subst (λ (s : ℕ). IsLog news (part (s + 16384) 65536 c)) (sym slot_stays) log)

    pub holds_after_torn_second_write : Holds c snap rs ⊎ Holds c snap (rs ++ r ∷ [])
    holds_after_torn_second_write = elim (old_or_new_log_after_torn_commit rs r _ _ (first_staged g first here) valid_length commit_torn_log) [ inl a ↦ inl (lift rs a) | inr b ↦ inr (lift (rs ++ r ∷ []) b) ]

    pub holds_after_second_write : part commit_at 1 c ≡ 1 ∷ [] → Holds c snap (rs ++ r ∷ [])
    holds_after_second_write one =
        let at_log : get_or (part lo 65536 c) (length (frames_of rs)) 0 ≡ get_or c (lo + length (frames_of rs)) 0 = byte_of_part lo 65536 c (length (frames_of rs)) (omega (arith, at_commit.room)) in
        let at_file : get_or (part commit_at 1 c) 0 0 ≡ get_or c (commit_at + 0) 0 = byte_of_part commit_at 1 c 0 (omega arith) in
        let place : lo + length (frames_of rs) ≡ commit_at + 0 = omega (arith, at_commit.at) in
        let is_one : get_or (part lo 65536 c) (length (frames_of rs)) 0 ≡ 1 = at_log ∙ ap (λ (i : ℕ). get_or c i 0) place ∙ sym at_file ∙ ap (λ (l : List ℕ). get_or l 0 0) one in
        let by_commit_byte = log_after_torn_commit_byte rs r _ _ (first_staged g first here) valid_length commit_torn_log in lift (rs ++ r ∷ []) (by_commit_byte.0 is_one)
