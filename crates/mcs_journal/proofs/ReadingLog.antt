-- Lemmas about reading a log record by record: the records read so far, and the rest of the log.
use Rattle.std.proofs.Common.{◌≡◌, ◌≢◌, ◌≤◌, ◌<◌, ◌+◌, ◌-◌, ◌/◌, ◌%◌, List, [], ◌∷◌, ◌++◌, ℕ, length, take, drop, get_or, refl, sym, ◌∙◌, ap, arith, append_assoc, length-append, length-drop, take-append-drop}
use Rattle.std.proofs.lemmas.List.{take_at, drop_at, drop-drop, drop_more}
use Rattle.mcs_disk.specs.Disk.{part}
use Rattle.mcs_journal.specs.File.{IsLog, AreRecords, frames_of, frame_of}
use Rattle.mcs_journal.specs.Writing.{IsRecordAt, HasNoRecordAt}
use Rattle.mcs_journal.proofs.ByteRanges.{byte_of_part, part_of_part, length-part}
use Rattle.mcs_journal.proofs.Logs.{frames_of-push, AreRecords-push, length-frame_of}

-- holds if the log begins with the frames of these records, which occupy `used` bytes
pub record IsPrefix (records : List (List ℕ)) (used : ℕ) (log : List ℕ) : Type 0 where
  pub is : log ≡ frames_of records ++ drop used log
  pub count : used ≡ length (frames_of records)
  pub valid_length : AreRecords records

module _ (f : List ℕ) (at : ℕ) (fits : at + 65536 ≤ length f) (rs : List (List ℕ)) (used : ℕ) where
  abbrev log : List ℕ
  log = part at 65536 f

  pub prefix_with_next_record : (r : List ℕ) → IsPrefix rs used log → IsRecordAt f (at + used) r → length r + 4 ≤ 65536 - used → IsPrefix (rs ++ r ∷ []) (used + (length r + 3)) log
  prefix_with_next_record r so_far next room = record {
    is =
        so_far.is
        ∙ ap (λ (l : List ℕ). frames_of rs ++ l) (sym (take-append-drop (length r + 3) (drop used log)) ∙ (λ k. here k ++ behind k))
        ∙ sym (append_assoc (frames_of rs) (frame_of r) (drop (used + (length r + 3)) log))
        ∙ ap (λ (l : List ℕ). l ++ drop (used + (length r + 3)) log) (sym (frames_of-push rs r));
    count = omega (arith, so_far.count, ap length (frames_of-push rs r), length-append (frames_of rs) (frame_of r), length-frame_of r);
    valid_length = AreRecords-push rs r so_far.valid_length next.valid_length;
  }
    where
      here : take (length r + 3) (drop used log) ≡ frame_of r
      here = part_of_part at 65536 used (length r + 3) (65536 - used) f (omega (arith, room)) (omega (arith, room)) ∙ next.is

      behind : drop (length r + 3) (drop used log) ≡ drop (used + (length r + 3)) log
      behind = drop-drop (length r + 3) used log

  pub log_if_prefix_ends : IsPrefix rs used log → get_or f (at + used) 0 ≢ 1 → used < 65536 → IsLog rs log
  log_if_prefix_ends so_far not_committed inside = record {
    commit_byte = get_or log used 0;
    rest = drop (used + 1) log;
    is = so_far.is ∙ ap (λ (l : List ℕ). frames_of rs ++ l) (drop_more log used 0 (omega (arith, inside, length-part at 65536 f fits)));
    ends_log = λ one. not_committed (sym (byte_of_part at 65536 f used inside) ∙ one);
    records_ok = so_far.valid_length;
  }

  pub no_log : IsPrefix rs used log → used < 65536 → HasNoRecordAt f (at + used) (65536 - used) → (ss : List (List ℕ)) → IsLog ss log → ⊥
  no_log so_far inside no_record ss a = walk rs ss a.records_ok (sym a.is ∙ so_far.is)
    where
      commit_is : get_or (drop used log) 0 0 ≡ 1
      commit_is =
          ap (λ (l : List ℕ). get_or l 0 0) (drop_more log used 0 (omega (arith, inside, length-part at 65536 f fits)))
          ∙ byte_of_part at 65536 f used inside ∙ no_record.opened

      long : length (drop used log) ≡ 65536 - used
      long = omega (arith, length-drop used log, length-part at 65536 f fits)

      walk : (ps qs : List (List ℕ)) → AreRecords qs → frames_of qs ++ a.commit_byte ∷ a.rest ≡ frames_of ps ++ drop used log → ⊥
      walk [] [] valid_length same = a.ends_log (ap (λ (l : List ℕ). get_or l 0 0) same ∙ commit_is)
      walk [] (q ∷ qs) valid_length same =
          let tail = frames_of qs ++ a.commit_byte ∷ a.rest in
          let apart : frame_of q ++ tail ≡ drop used log = sym (append_assoc (frame_of q) (frames_of qs) (a.commit_byte ∷ a.rest)) ∙ same in
          let room : length q + 4 ≤ 65536 - used = omega (arith, long, ap length apart, length-append (frame_of q) tail, length-append (frames_of qs) (a.commit_byte ∷ a.rest), length-frame_of q) in
          let here : part (at + used) (length q + 3) f ≡ frame_of q =
          sym (part_of_part at 65536 used (length q + 3) (65536 - used) f (omega (arith, inside)) (omega (arith, room)))
          ∙ ap (λ (l : List ℕ). take (length q + 3) l) (sym apart) ∙ take_at (frame_of q) tail (length q + 3) (length-frame_of q) in
          no_record.none q room (record { valid_length = valid_length.0; is = here })
      walk (p ∷ ps) [] valid_length same = let one : a.commit_byte ≡ 1 = cc in a.ends_log one
      walk (p ∷ ps) (q ∷ qs) valid_length same =
          let high : length q / 256 ≡ length p / 256 = cc in
          let low : length q % 256 ≡ length p % 256 = cc in
          let count : length q ≡ length p = omega (arith, high, low) in
          let tails : (q ++ frames_of qs) ++ a.commit_byte ∷ a.rest ≡ (p ++ frames_of ps) ++ drop used log = cc in
          let apart : q ++ (frames_of qs ++ a.commit_byte ∷ a.rest) ≡ p ++ (frames_of ps ++ drop used log) = sym (append_assoc q (frames_of qs) (a.commit_byte ∷ a.rest)) ∙ tails ∙ append_assoc p (frames_of ps) (drop used log) in
          walk ps qs valid_length.1 (sym (drop_at q (frames_of qs ++ a.commit_byte ∷ a.rest) (length q) refl) ∙ ap (λ (l : List ℕ). drop (length q) l) apart ∙ drop_at p (frames_of ps ++ drop used log) (length q) (sym count))
