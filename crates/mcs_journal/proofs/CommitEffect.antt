-- The effect of a write and a sync, derived from the calls that were made.
use Rattle.std.proofs.Common.{◌≡◌, ◌⊎◌, inl, inr, ◌+◌, ◌≤◌, List, [], ◌∷◌, ℕ, length, refl, sym, subst, arith, Result, Ok, Err}
use Rattle.mcs_disk.specs.CallList.{IsCutShort, MakesCalls}
use Rattle.mcs_disk.specs.Calls.{Torn, bytes_after, clock_of, images_after, put, images_after_since, DiskCall, Failed, Synced, Wrote}
use Rattle.mcs_disk.specs.Disk.{DiskState, size_of}
use Rattle.mcs_disk.proofs.CallLaws.{current_bytes_are_image, length-bytes_after, torn_by_put, torn_by_put_of_at_most, image_since_now_is_image, torn_without_change}
use Rattle.mcs_disk.proofs.WrittenBytes.{part_of_put_is_written_bytes}
use Rattle.mcs_journal.specs.Calls.{commit_calls}
use Rattle.mcs_journal.specs.Writing.{CommitsBytes}

module _ (old : DiskState) (g : ℕ) (q : Type 0) (at : ℕ) (from : List ℕ) where
  abbrev left_with : List ℕ → List DiskCall → DiskState
  left_with start calls = record { faults = g; honest = q; start = start; calls = calls }

  abbrev bytes : List ℕ
  bytes = bytes_after old.start old.calls

  -- holds for an image from before the write, possibly with other bytes in the written range
  abbrev IsImageOrTorn : List ℕ → Type 0
  IsImageOrTorn c = images_after old.start old.calls c ⊎ ((d : List ℕ) × images_after old.start old.calls d × Torn at (length from) d c)

  since_write : (c : List ℕ) → images_after_since old.start (Wrote at from ∷ old.calls) (clock_of old.calls) c → IsImageOrTorn c
  since_write c (inl now) = inr now
  since_write c (inr past) = inl (image_since_now_is_image old.start old.calls c past.1)

  since_sync : (c : List ℕ) → images_after_since old.start (Synced ∷ Wrote at from ∷ old.calls) (clock_of old.calls) c → IsImageOrTorn c
  since_sync c (inl now) = inr (bytes, current_bytes_are_image old.start old.calls, subst (Torn at (length from) bytes) (sym now) (torn_by_put at from bytes))
  since_sync c (inr past) = since_write c past.1

  since_failure : (now c : List ℕ) → images_after_since old.start (Failed at from now ∷ old.calls) (clock_of old.calls) c → IsImageOrTorn c
  since_failure now c (inl here) = inr here
  since_failure now c (inr past) = inl (image_since_now_is_image old.start old.calls c past.1)

  durable : (c : List ℕ) → images_after old.start (Synced ∷ Wrote at from ∷ old.calls) c → c ≡ put at from bytes
  durable c now = now

  -- the effect if the write and the sync returned Ok
  committed : {T E : Type 0} (x : T) → at + length from ≤ size_of old → CommitsBytes {T = T} {E = E} at from old (left_with old.start (Synced ∷ Wrote at from ∷ old.calls)) (Ok x)
  committed x fits = record {
    written = part_of_put_is_written_bytes at from bytes (omega (arith, fits, length-bytes_after old.start old.calls));
    outside = torn_by_put at from bytes;
    durable = durable;
    ticks = omega arith;
    later = record { start = refl; added = Synced ∷ Wrote at from ∷ []; all = refl };
    each = since_sync;
  }

  -- the effect if the write or the sync failed
  failed : {T E : Type 0} (e : E) (new : List DiskCall) → IsCutShort (commit_calls at from) old.calls new → CommitsBytes {T = T} {E = E} at from old (left_with old.start new) (Err e)
  failed {T = T} {E = E} e new (inl wrote) = subst (λ (l : List DiskCall). CommitsBytes {T = T} {E = E} at from old (left_with old.start l) (Err e)) (sym wrote) (record {
    written = tt;
    outside = torn_by_put at from bytes;
    durable = tt;
    ticks = tt;
    later = record { start = refl; added = Wrote at from ∷ []; all = refl };
    each = since_write;
  })
  failed {T = T} {E = E} e new (inr (inl (inl same))) = subst (λ (l : List DiskCall). CommitsBytes {T = T} {E = E} at from old (left_with old.start l) (Err e)) (sym same) (record {
    written = tt;
    outside = torn_without_change at (length from) bytes;
    durable = tt;
    ticks = tt;
    later = record { start = refl; added = []; all = refl };
    each = λ c left. inl (image_since_now_is_image old.start old.calls c left);
  })
  failed {T = T} {E = E} e new (inr (inl (inr torn))) = subst (λ (l : List DiskCall). CommitsBytes {T = T} {E = E} at from old (left_with old.start l) (Err e)) (sym torn.1) (record {
    written = tt;
    outside = torn_by_put_of_at_most at (length from) torn.0 bytes;
    durable = tt;
    ticks = tt;
    later = record { start = refl; added = Failed at from torn.0 ∷ []; all = refl };
    each = since_failure torn.0;
  })
  failed e new (inr (inr none)) = absurd none

pub commits_bytes_after_commit_calls : {T E : Type 0} (old new : DiskState) (at : ℕ) (from : List ℕ) (result : Result T E) → at + length from ≤ size_of old → new.start ≡ old.start
    → MakesCalls (commit_calls at from) old.calls new.calls result → CommitsBytes at from old new result
commits_bytes_after_commit_calls {T = T} {E = E} old new at from (Ok x) fits same made =
    subst (λ (s : List ℕ). CommitsBytes {T = T} {E = E} at from old (left_with old new.faults new.honest at from s new.calls) (Ok x)) (sym same)
    (subst (λ (l : List DiskCall). CommitsBytes {T = T} {E = E} at from old (left_with old new.faults new.honest at from old.start l) (Ok x)) (sym made.all) (committed old new.faults new.honest at from x fits))
commits_bytes_after_commit_calls {T = T} {E = E} old new at from (Err e) fits same made =
    subst (λ (s : List ℕ). CommitsBytes {T = T} {E = E} at from old (left_with old new.faults new.honest at from s new.calls) (Err e)) (sym same)
    (failed old new.faults new.honest at from e new.calls made.cut)
