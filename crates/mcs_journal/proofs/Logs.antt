-- A log after each of the two writes that add a record.
use Rattle.std.proofs.Common.{◌≡◌, ◌≢◌, ◌⊎◌, inl, inr, ◌≤◌, ◌+◌, List, [], ◌∷◌, ◌++◌, ℕ, length, take, drop, get_or, sym, ◌∙◌, ap, subst, arith, append_assoc, length-append, take-append-drop}
use Rattle.std.proofs.lemmas.List.{append-nil, drop_at}
use Rattle.std.proofs.lemmas.Bool.{cases_eq}
use Rattle.mcs_disk.specs.Disk.{part, Torn}
use Rattle.mcs_journal.specs.File.{IsLog, frames_of, frame_of, be16, AreRecords, IsRecord}
use Rattle.mcs_journal.proofs.ByteRanges.{begins_with_equal_bytes, differs_in_one_byte}

pub length-frame_of : (r : List ℕ) → length (frame_of r) ≡ length r + 3
length-frame_of r = omega arith

pub frames_of-push : (rs : List (List ℕ)) (r : List ℕ) → frames_of (rs ++ r ∷ []) ≡ frames_of rs ++ frame_of r
frames_of-push [] r = append-nil (frame_of r)
frames_of-push (x ∷ rs) r = ap (λ (l : List ℕ). frame_of x ++ l) (frames_of-push rs r) ∙ sym (append_assoc (frame_of x) (frames_of rs) (frame_of r))

pub AreRecords-push : (rs : List (List ℕ)) (r : List ℕ) → AreRecords rs → IsRecord r → AreRecords (rs ++ r ∷ [])
AreRecords-push [] r all ok = (ok, tt)
AreRecords-push (x ∷ rs) r all ok = (all.0, AreRecords-push rs r all.1 ok)

-- a write after the commit byte that ends a log leaves the records of the log unchanged
pub log_unchanged_after_commit_byte : (rs : List (List ℕ)) (n : ℕ) (log c : List ℕ) → IsLog rs log → Torn (length (frames_of rs) + 1) n log c → IsLog rs c
log_unchanged_after_commit_byte rs n log c old torn =
    let p = frames_of rs ++ old.commit_byte ∷ [] in
    let as_p : log ≡ p ++ old.rest = old.is ∙ sym (append_assoc (frames_of rs) (old.commit_byte ∷ []) old.rest) in
    let long : length p ≡ length (frames_of rs) + 1 = omega (arith, length-append (frames_of rs) (old.commit_byte ∷ [])) in
    let fits : length p ≤ length c = omega (arith, torn.size, ap length as_p, length-append p old.rest) in
    let is : c ≡ p ++ drop (length p) c = begins_with_equal_bytes p old.rest c fits (λ i lt. torn.before i (omega (arith, lt, long)) ∙ ap (λ (l : List ℕ). get_or l i 0) as_p) in
    record {
      commit_byte = old.commit_byte;
      rest = drop (length p) c;
      is = is ∙ append_assoc (frames_of rs) (old.commit_byte ∷ []) (drop (length p) c);
      ends_log = old.ends_log;
      records_ok = old.records_ok;
    }

-- holds if the log has the frames of `rs`, a commit byte, the length of the record `r`, the record,
-- and a commit byte of 0
pub record IsStaged (rs : List (List ℕ)) (r log : List ℕ) : Type 0 where
  pub commit_byte : ℕ
  pub rest : List ℕ
  pub is : log ≡ frames_of rs ++ commit_byte ∷ ((be16 (length r) ++ r ++ 0 ∷ []) ++ rest)
  pub records_ok : AreRecords rs

pub record_is_staged_by_write : (rs : List (List ℕ)) (r from log c : List ℕ) → from ≡ be16 (length r) ++ r ++ 0 ∷ [] → IsLog rs log → Torn (length (frames_of rs) + 1) (length from) log c → part (length (frames_of rs) + 1) (length from) c ≡ from → IsStaged rs r c
record_is_staged_by_write rs r from log c spells old torn here =
    let n = length (frames_of rs) + 1 in
    let next = log_unchanged_after_commit_byte rs (length from) log c old torn in
    let p = frames_of rs ++ next.commit_byte ∷ [] in
    let long : length p ≡ n = omega (arith, length-append (frames_of rs) (next.commit_byte ∷ [])) in
    let as_p : c ≡ p ++ next.rest = next.is ∙ sym (append_assoc (frames_of rs) (next.commit_byte ∷ []) next.rest) in
    let tail : drop n c ≡ next.rest = ap (λ (l : List ℕ). drop n l) as_p ∙ drop_at p next.rest n long in
    let front : take (length from) next.rest ≡ be16 (length r) ++ r ++ 0 ∷ [] = ap (λ (l : List ℕ). take (length from) l) (sym tail) ∙ here ∙ spells in
    record {
      commit_byte = next.commit_byte;
      rest = drop (length from) next.rest;
      is = next.is ∙ ap (λ (l : List ℕ). frames_of rs ++ next.commit_byte ∷ l) (sym (take-append-drop (length from) next.rest) ∙ ap (λ (l : List ℕ). l ++ drop (length from) next.rest) front);
      records_ok = next.records_ok;
    }

-- if the commit byte in front of the record `r` becomes 1, the log holds `r` after its other
-- records
pub log_with_commit_byte_set : (rs : List (List ℕ)) (r rest : List ℕ) (commit_byte : ℕ) → AreRecords rs → IsRecord r → commit_byte ≡ 1 → IsLog (rs ++ r ∷ []) (frames_of rs ++ commit_byte ∷ ((be16 (length r) ++ r ++ 0 ∷ []) ++ rest))
log_with_commit_byte_set rs r rest commit_byte ok valid_length one = record {
  commit_byte = 0;
  rest = rest;
  is =
      ap (λ (g : ℕ). frames_of rs ++ g ∷ ((be16 (length r) ++ r ++ 0 ∷ []) ++ rest)) one
      ∙ ap (λ (l : List ℕ). frames_of rs ++ l) (append_assoc (frame_of r) (0 ∷ []) rest)
      ∙ sym (append_assoc (frames_of rs) (frame_of r) (0 ∷ rest))
      ∙ ap (λ (l : List ℕ). l ++ 0 ∷ rest) (sym (frames_of-push rs r));
  ends_log = λ no. cc;
  records_ok = AreRecords-push rs r ok valid_length;
}

pub log_after_torn_commit_byte : (rs : List (List ℕ)) (r log c : List ℕ) → IsStaged rs r log → IsRecord r → Torn (length (frames_of rs)) 1 log c → (get_or c (length (frames_of rs)) 0 ≡ 1 → IsLog (rs ++ r ∷ []) c) × (get_or c (length (frames_of rs)) 0 ≢ 1 → IsLog rs c)
log_after_torn_commit_byte rs r log c old valid_length torn =
    let bytes = (be16 (length r) ++ r ++ 0 ∷ []) ++ old.rest in
    let g = get_or c (length (frames_of rs)) 0 in
    let is : c ≡ frames_of rs ++ g ∷ bytes = differs_in_one_byte (frames_of rs) bytes c old.commit_byte (torn.size ∙ ap length old.is)
    (λ i lt. torn.before i lt ∙ ap (λ (l : List ℕ). get_or l i 0) old.is)
    (λ i le. torn.after i le ∙ ap (λ (l : List ℕ). get_or l i 0) old.is) in (
      λ one. subst (IsLog (rs ++ r ∷ [])) (sym is) (log_with_commit_byte_set rs r old.rest g old.records_ok valid_length one),
      λ not_committed. record { commit_byte = g; rest = bytes; is = is; ends_log = not_committed; records_ok = old.records_ok },
    )

pub old_or_new_log_after_torn_commit : (rs : List (List ℕ)) (r log c : List ℕ) → IsStaged rs r log → IsRecord r → Torn (length (frames_of rs)) 1 log c → IsLog rs c ⊎ IsLog (rs ++ r ∷ []) c
old_or_new_log_after_torn_commit rs r log c old valid_length torn =
    let by_commit_byte = log_after_torn_commit_byte rs r log c old valid_length torn in
    elim (cases_eq (get_or c (length (frames_of rs)) 0) 1) [ inl one ↦ inr (by_commit_byte.0 one) | inr not_committed ↦ inl (by_commit_byte.1 not_committed) ]
