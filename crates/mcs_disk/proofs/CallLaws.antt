-- Properties of a disk after any calls: its bytes, its images (the bytes that a power cut can
-- leave), and the effect of further calls on its bytes and images.
use Rattle.std.proofs.Common.{◌≡◌, ◌⊎◌, inl, inr, ⊎_elim, ℕ, zero, suc, ◌+◌, ◌≤◌, ◌<◌, List, [], ◌∷◌, ◌++◌, length, take, refl, arith, sym, ◌∙◌, ap, subst, get_or, length-take}
use Rattle.mcs_disk.specs.Calls.{DiskCall, WasRead, Wrote, Failed, Synced, Torn, put, bytes_after, clock_of, images_after, images_after_since}
use Rattle.mcs_disk.specs.Stretches.{writes_of}
use Rattle.mcs_disk.specs.Disk.{DiskState, bytes_of, images_of, images_since, size_of, time_of}

pub length-put : (at : ℕ) (from file : List ℕ) → length (put at from file) ≡ length file
length-put at from [] = refl
length-put zero [] (y ∷ ys) = refl
length-put zero (x ∷ xs) (y ∷ ys) = ap suc (length-put zero xs ys)
length-put (suc at) from (y ∷ ys) = ap suc (length-put at from ys)

byte_before_put_unchanged : (at : ℕ) (from file : List ℕ) (i : ℕ) → i < at
    → get_or (put at from file) i 0 ≡ get_or file i 0
byte_before_put_unchanged at from [] i lt = refl
byte_before_put_unchanged zero from (y ∷ ys) i lt = absurd (omega arith)
byte_before_put_unchanged (suc at) from (y ∷ ys) zero lt = refl
byte_before_put_unchanged (suc at) from (y ∷ ys) (suc i) lt = byte_before_put_unchanged at from ys i (omega arith)

byte_after_put_unchanged : (at : ℕ) (from file : List ℕ) (i : ℕ) → at + length from ≤ i
    → get_or (put at from file) i 0 ≡ get_or file i 0
byte_after_put_unchanged at from [] i le = refl
byte_after_put_unchanged zero [] (y ∷ ys) i le = refl
byte_after_put_unchanged zero (x ∷ xs) (y ∷ ys) zero le = absurd (omega arith)
byte_after_put_unchanged zero (x ∷ xs) (y ∷ ys) (suc i) le = byte_after_put_unchanged zero xs ys i (omega arith)
byte_after_put_unchanged (suc at) from (y ∷ ys) zero le = absurd (omega arith)
byte_after_put_unchanged (suc at) from (y ∷ ys) (suc i) le = byte_after_put_unchanged at from ys i (omega arith)

pub torn_by_put : (at : ℕ) (from file : List ℕ) → Torn at (length from) file (put at from file)
torn_by_put at from file = record {
  size = length-put at from file;
  before = byte_before_put_unchanged at from file;
  after = byte_after_put_unchanged at from file;
}

-- a write of at most `n` bytes at offset `at` changes nothing outside the `n` bytes that start
-- there
pub torn_by_put_of_at_most : (at n : ℕ) (from file : List ℕ) → Torn at n file (put at (take n from) file)
torn_by_put_of_at_most at n from file =
    let few : length (take n from) ≤ n = omega (arith, length-take n from) in
    record {
      size = length-put at (take n from) file;
      before = byte_before_put_unchanged at (take n from) file;
      after = λ i le. byte_after_put_unchanged at (take n from) file i (omega (arith, le, few));
    }

pub torn_without_change : (at n : ℕ) (file : List ℕ) → Torn at n file file
torn_without_change at n file = record { size = refl; before = λ i lt. refl; after = λ i le. refl }

pub length-bytes_after : (start : List ℕ) (calls : List DiskCall)
    → length (bytes_after start calls) ≡ length start
length-bytes_after start [] = refl
length-bytes_after start (WasRead ∷ calls) = length-bytes_after start calls
length-bytes_after start (Wrote at from ∷ calls) =
    length-put at from (bytes_after start calls) ∙ length-bytes_after start calls
length-bytes_after start (Failed at from now ∷ calls) =
    length-put at (take (length from) now) (bytes_after start calls) ∙ length-bytes_after start calls
length-bytes_after start (Synced ∷ calls) = length-bytes_after start calls

pub current_bytes_are_image : (start : List ℕ) (calls : List DiskCall)
    → images_after start calls (bytes_after start calls)
current_bytes_are_image start [] = refl
current_bytes_are_image start (WasRead ∷ calls) = current_bytes_are_image start calls
current_bytes_are_image start (Wrote at from ∷ calls) =
    (bytes_after start calls, current_bytes_are_image start calls, torn_by_put at from (bytes_after start calls))
current_bytes_are_image start (Failed at from now ∷ calls) =
    (bytes_after start calls, current_bytes_are_image start calls, torn_by_put_of_at_most at (length from) now (bytes_after start calls))
current_bytes_are_image start (Synced ∷ calls) = refl

pub length_of_image : (start : List ℕ) (calls : List DiskCall) (c : List ℕ)
    → images_after start calls c → length c ≡ length start
length_of_image start [] c left = ap length left
length_of_image start (WasRead ∷ calls) c left = length_of_image start calls c left
length_of_image start (Wrote at from ∷ calls) c left = left.2.size ∙ length_of_image start calls (left.0) (left.1)
length_of_image start (Failed at from now ∷ calls) c left = left.2.size ∙ length_of_image start calls (left.0) (left.1)
length_of_image start (Synced ∷ calls) c left = ap length left ∙ length-bytes_after start calls

pub image_is_image_since : (start : List ℕ) (calls : List DiskCall) (t : ℕ) (c : List ℕ)
    → images_after start calls c → images_after_since start calls t c
image_is_image_since start [] t c now = now
image_is_image_since start (call ∷ calls) t c now = inl now

pub image_since_earlier_time : (start : List ℕ) (calls : List DiskCall) (t u : ℕ) (c : List ℕ) → t ≤ u
    → images_after_since start calls u c → images_after_since start calls t c
image_since_earlier_time start [] t u c le left = left
image_since_earlier_time start (call ∷ calls) t u c le (inl now) = inl now
image_since_earlier_time start (call ∷ calls) t u c le (inr past) =
    inr (omega (arith, le, past.0), image_since_earlier_time start calls t u c le (past.1))

-- An image since the clock's current time is an image of this moment. A failed call does not
-- advance the clock, but each image before the failed call is also an image after it.
pub image_since_now_is_image : (start : List ℕ) (calls : List DiskCall) (c : List ℕ) → images_after_since start calls (clock_of calls) c → images_after start calls c
image_since_now_is_image start [] c left = left
image_since_now_is_image start (WasRead ∷ calls) c (inl now) = now
image_since_now_is_image start (WasRead ∷ calls) c (inr past) = absurd (omega (arith, past.0))
image_since_now_is_image start (Wrote at from ∷ calls) c (inl now) = now
image_since_now_is_image start (Wrote at from ∷ calls) c (inr past) = absurd (omega (arith, past.0))
image_since_now_is_image start (Failed at from n ∷ calls) c (inl now) = now
image_since_now_is_image start (Failed at from n ∷ calls) c (inr past) = (c, image_since_now_is_image start calls c past.1, torn_without_change at (length from) c)
image_since_now_is_image start (Synced ∷ calls) c (inl now) = now
image_since_now_is_image start (Synced ∷ calls) c (inr past) = absurd (omega (arith, past.0))

pub length_of_image_since : (start : List ℕ) (calls : List DiskCall) (t : ℕ) (c : List ℕ) → images_after_since start calls t c → length c ≡ length start
length_of_image_since start [] t c left = length_of_image start [] c left
length_of_image_since start (call ∷ calls) t c (inl now) = length_of_image start (call ∷ calls) c now
length_of_image_since start (call ∷ calls) t c (inr past) = length_of_image_since start calls t c past.1

-- ---- properties of a disk's state

-- the properties of a disk at any moment
pub record IsLawful (disk : DiskState) : Type 0 where
  -- the bytes of the disk are one of its images
  pub current : images_of disk (bytes_of disk)
  pub sized : (c : List ℕ) → images_of disk c → length c ≡ size_of disk
  -- an image of this moment is also an image since any time
  pub now_implies_since : (t : ℕ) (c : List ℕ) → images_of disk c → images_since t disk c
  -- an image since the current time of the clock is an image of this moment
  pub since_now_implies_now : (c : List ℕ) → images_since (time_of disk) disk c → images_of disk c
  -- an image since a later time is also an image since an earlier time
  pub since_later_implies_since_earlier : (t u : ℕ) (c : List ℕ) → t ≤ u → images_since u disk c → images_since t disk c

pub disk_is_lawful : (disk : DiskState) → IsLawful disk
disk_is_lawful disk = record {
  current = current_bytes_are_image disk.start disk.calls;
  sized = length_of_image disk.start disk.calls;
  now_implies_since = image_is_image_since disk.start disk.calls;
  since_now_implies_now = image_since_now_is_image disk.start disk.calls;
  since_later_implies_since_earlier = image_since_earlier_time disk.start disk.calls;
}

pub length-bytes_of : (disk : DiskState) → length (bytes_of disk) ≡ size_of disk
length-bytes_of disk = length-bytes_after disk.start disk.calls

-- ---- later calls

pub clock_only_advances : (more calls : List DiskCall) → clock_of calls ≤ clock_of (more ++ calls)
clock_only_advances [] calls = omega arith
clock_only_advances (WasRead ∷ more) calls = omega (arith, clock_only_advances more calls)
clock_only_advances (Wrote at from ∷ more) calls = omega (arith, clock_only_advances more calls)
clock_only_advances (Failed at from now ∷ more) calls = omega (arith, clock_only_advances more calls)
clock_only_advances (Synced ∷ more) calls = omega (arith, clock_only_advances more calls)

-- an image since time `t` remains one after the further calls `more`, if `t` is not later than the
-- clock before `more`
pub image_since_after_more_calls : (start : List ℕ) (more calls : List DiskCall) (t : ℕ) (c : List ℕ) → t ≤ clock_of calls → images_after_since start calls t c → images_after_since start (more ++ calls) t c
image_since_after_more_calls start [] calls t c le left = left
image_since_after_more_calls start (call ∷ more) calls t c le left = inr (omega (arith, le, clock_only_advances more calls), image_since_after_more_calls start more calls t c le left)

-- an image since time `t` after the calls `more` was an image since `t` before these calls, or is
-- an image since these calls began
pub image_since_before_or_in_more_calls : (start : List ℕ) (more calls : List DiskCall) (t : ℕ) (c : List ℕ) → images_after_since start (more ++ calls) t c → images_after_since start calls t c ⊎ images_after_since start (more ++ calls) (clock_of calls) c
image_since_before_or_in_more_calls start [] calls t c left = inl left
image_since_before_or_in_more_calls start (call ∷ more) calls t c (inl now) = inr (inl now)
image_since_before_or_in_more_calls start (call ∷ more) calls t c (inr past) = ⊎_elim (λ old. inl old) (λ new. inr (inr (clock_only_advances more calls, new))) (image_since_before_or_in_more_calls start more calls t c past.1)

-- ---- stretches of reads and syncs

writes_only_increase : (more calls : List DiskCall) → writes_of calls ≤ writes_of (more ++ calls)
writes_only_increase [] calls = omega arith
writes_only_increase (WasRead ∷ more) calls = writes_only_increase more calls
writes_only_increase (Wrote at from ∷ more) calls = omega (arith, writes_only_increase more calls)
writes_only_increase (Failed at from now ∷ more) calls = omega (arith, writes_only_increase more calls)
writes_only_increase (Synced ∷ more) calls = writes_only_increase more calls

-- holds if none of these calls is a write
abbrev pub HasNoWrites : List DiskCall → Type 0
HasNoWrites [] = Unit {0}
HasNoWrites (WasRead ∷ more) = HasNoWrites more
HasNoWrites (Wrote at from ∷ more) = ⊥
HasNoWrites (Failed at from now ∷ more) = ⊥
HasNoWrites (Synced ∷ more) = HasNoWrites more

pub has_no_writes_if_count_unchanged : (more calls : List DiskCall) → writes_of (more ++ calls) ≡ writes_of calls → HasNoWrites more
has_no_writes_if_count_unchanged [] calls same = tt
has_no_writes_if_count_unchanged (WasRead ∷ more) calls same = has_no_writes_if_count_unchanged more calls same
has_no_writes_if_count_unchanged (Wrote at from ∷ more) calls same = absurd (omega (arith, same, writes_only_increase more calls))
has_no_writes_if_count_unchanged (Failed at from now ∷ more) calls same = absurd (omega (arith, same, writes_only_increase more calls))
has_no_writes_if_count_unchanged (Synced ∷ more) calls same = has_no_writes_if_count_unchanged more calls same

pub bytes_unchanged_without_writes : (start : List ℕ) (more calls : List DiskCall) → HasNoWrites more → bytes_after start (more ++ calls) ≡ bytes_after start calls
bytes_unchanged_without_writes start [] calls q = refl
bytes_unchanged_without_writes start (WasRead ∷ more) calls q = bytes_unchanged_without_writes start more calls q
bytes_unchanged_without_writes start (Wrote at from ∷ more) calls q = absurd q
bytes_unchanged_without_writes start (Failed at from now ∷ more) calls q = absurd q
bytes_unchanged_without_writes start (Synced ∷ more) calls q = bytes_unchanged_without_writes start more calls q

pub image_is_old_without_writes : (start : List ℕ) (more calls : List DiskCall) (c : List ℕ) → HasNoWrites more → images_after start (more ++ calls) c → images_after start calls c
image_is_old_without_writes start [] calls c q now = now
image_is_old_without_writes start (WasRead ∷ more) calls c q now = image_is_old_without_writes start more calls c q now
image_is_old_without_writes start (Wrote at from ∷ more) calls c q now = absurd q
image_is_old_without_writes start (Failed at from n ∷ more) calls c q now = absurd q
image_is_old_without_writes start (Synced ∷ more) calls c q now = subst (images_after start calls) (sym (now ∙ bytes_unchanged_without_writes start more calls q)) (current_bytes_are_image start calls)

pub image_since_is_old_without_writes : (start : List ℕ) (more calls : List DiskCall) (t : ℕ) (c : List ℕ) → HasNoWrites more → images_after_since start (more ++ calls) t c → images_after_since start calls t c
image_since_is_old_without_writes start [] calls t c q left = left
image_since_is_old_without_writes start (WasRead ∷ more) calls t c q (inl now) = image_is_image_since start calls t c (image_is_old_without_writes start more calls c q now)
image_since_is_old_without_writes start (WasRead ∷ more) calls t c q (inr past) = image_since_is_old_without_writes start more calls t c q past.1
image_since_is_old_without_writes start (Wrote at from ∷ more) calls t c q left = absurd q
image_since_is_old_without_writes start (Failed at from n ∷ more) calls t c q left = absurd q
image_since_is_old_without_writes start (Synced ∷ more) calls t c q (inl now) = image_is_image_since start calls t c (subst (images_after start calls) (sym (now ∙ bytes_unchanged_without_writes start more calls q)) (current_bytes_are_image start calls))
image_since_is_old_without_writes start (Synced ∷ more) calls t c q (inr past) = image_since_is_old_without_writes start more calls t c q past.1

pub durable_without_writes : (start : List ℕ) (more calls : List DiskCall) → HasNoWrites more → ((c : List ℕ) → images_after start calls c → c ≡ bytes_after start calls)
    → (c : List ℕ) → images_after start (more ++ calls) c → c ≡ bytes_after start (more ++ calls)
durable_without_writes start [] calls q held c now = held c now
durable_without_writes start (WasRead ∷ more) calls q held c now = durable_without_writes start more calls q held c now
durable_without_writes start (Wrote at from ∷ more) calls q held c now = absurd q
durable_without_writes start (Failed at from n ∷ more) calls q held c now = absurd q
durable_without_writes start (Synced ∷ more) calls q held c now = now
