-- Consecutive stretches of calls, and their combined effect on a disk.
use Rattle.std.proofs.Common.{◌≡◌, ◌⊎◌, inl, inr, ⊎_elim, ◌+◌, ◌≤◌, ℕ, List, [], ◌∷◌, ◌++◌, refl, sym, ◌∙◌, ap, subst, append_assoc, length, min, Result, Ok, Err, IsErr}
use Rattle.std.proofs.lemmas.Result.{on_ok_weaker}
use Rattle.mcs_disk.specs.CallList.{IsCutShort, MakesCalls}
use Rattle.mcs_disk.specs.Disk.{CountsFault, DiskState, IsLater, bytes_of, images_of, images_since, max_fault_count, size_of, time_of}
use Rattle.mcs_disk.specs.Calls.{bytes_after, clock_of, images_after, images_after_since, DiskCall, Failed, Synced, WasRead, Wrote}
use Rattle.mcs_disk.specs.Changes.{Changes, ReadsOnly}
use Rattle.mcs_disk.specs.Stretches.{AddsNoImage, SatisfiesEither, LeavesOnly, writes_of}
use Rattle.mcs_disk.specs.PowerCut.{IsDurable}
use Rattle.mcs_disk.proofs.CallLaws.{HasNoWrites, clock_only_advances, disk_is_lawful, has_no_writes_if_count_unchanged, bytes_unchanged_without_writes, durable_without_writes, image_is_old_without_writes, image_since_is_old_without_writes, image_since_before_or_in_more_calls, image_since_after_more_calls, length_of_image_since}
use Rattle.mcs_disk.proofs.CallSequences.{reads_write_nothing, syncs_write_nothing}

-- if `F` and `G` are equivalent, `CountsFault` for `F` implies `CountsFault` for `G`
pub counts_fault_of_equivalent_failure : (old new : DiskState) (F G : Type 0) → (F → G) → (G → F) → CountsFault old new F → CountsFault old new G
counts_fault_of_equivalent_failure old new F G to from counts = record {
  start = counts.start;
  honest = counts.honest;
  fault = λ failed. counts.fault (from failed);
  no_fault = λ none. counts.no_fault (λ failed. none (to failed));
}

-- if no call of the first stretch failed, `CountsFault` of the second stretch also holds for both
-- stretches together
pub counts_fault_of_two_stretches : (old mid new : DiskState) (F G : Type 0) → ¬ F → CountsFault old mid F → CountsFault mid new G → CountsFault old new G
counts_fault_of_two_stretches old mid new F G none first second = record {
  start = second.start ∙ first.start;
  honest = (λ h. first.honest.0 (second.honest.0 h), λ h. second.honest.1 (first.honest.1 h));
  fault = λ it. second.fault it ∙ ap (λ (n : ℕ). min (n + 1) max_fault_count) (first.no_fault none);
  no_fault = λ no. second.no_fault no ∙ first.no_fault none;
}

-- ---- later states of a disk

-- if `P` holds for the initial bytes and the calls of `new`, it also holds for the initial bytes of
-- `old` and the calls of `old` with the added calls
pub property_in_terms_of_old_disk : (P : List ℕ → List DiskCall → Type 0) (old new : DiskState) (x : IsLater old new) → P new.start new.calls → P old.start (x.added ++ old.calls)
property_in_terms_of_old_disk P old new x it = subst (λ (s : List ℕ). P s (x.added ++ old.calls)) x.start (subst (P new.start) x.all it)

pub property_in_terms_of_new_disk : (P : List ℕ → List DiskCall → Type 0) (old new : DiskState) (x : IsLater old new) → P old.start (x.added ++ old.calls) → P new.start new.calls
property_in_terms_of_new_disk P old new x it = subst (P new.start) (sym x.all) (subst (λ (s : List ℕ). P s (x.added ++ old.calls)) (sym x.start) it)

pub is_later_than_itself : (disk : DiskState) → IsLater disk disk
is_later_than_itself disk = record { start = refl; added = []; all = refl }

pub is_later_transitive : (old mid new : DiskState) → IsLater old mid → IsLater mid new → IsLater old new
is_later_transitive old mid new first second = record {
  start = second.start ∙ first.start;
  added = second.added ++ first.added;
  all = second.all ∙ ap (λ (l : List DiskCall). second.added ++ l) first.all ∙ sym (append_assoc second.added first.added old.calls);
}

pub time_of_later_disk : (old new : DiskState) → IsLater old new → time_of old ≤ time_of new
time_of_later_disk old new x = property_in_terms_of_new_disk (λ start calls. clock_of old.calls ≤ clock_of calls) old new x (clock_only_advances x.added old.calls)

pub image_since_remains_on_later_disk : (old new : DiskState) → IsLater old new → (t : ℕ) (c : List ℕ) → t ≤ time_of old → images_since t old c → images_since t new c
image_since_remains_on_later_disk old new x t c le left = property_in_terms_of_new_disk (λ start calls. images_after_since start calls t c) old new x (image_since_after_more_calls old.start x.added old.calls t c le left)

pub image_since_before_or_in_stretch : (old new : DiskState) → IsLater old new → (t : ℕ) (c : List ℕ) → images_since t new c → images_since t old c ⊎ images_since (time_of old) new c
image_since_before_or_in_stretch old new x t c left =
    ⊎_elim (λ past. inl past) (λ now. inr (property_in_terms_of_new_disk (λ start calls. images_after_since start calls (clock_of old.calls) c) old new x now))
    (image_since_before_or_in_more_calls old.start x.added old.calls t c (property_in_terms_of_old_disk (λ start calls. images_after_since start calls t c) old new x left))

-- every image has the size of the disk
pub length_of_disk_image_since : (disk : DiskState) (t : ℕ) (c : List ℕ) → images_since t disk c → length c ≡ size_of disk
length_of_disk_image_since disk t c left = length_of_image_since disk.start disk.calls t c left

-- on a durable disk, the bytes of the disk are the only image since the clock's current time
pub only_image_since_now_if_durable : (disk : DiskState) → IsDurable disk → (c : List ℕ) → images_since (time_of disk) disk c → c ≡ bytes_of disk
only_image_since_now_if_durable disk durable c left = durable c ((disk_is_lawful disk).since_now_implies_now c left)

pub durable_without_calls : (disk : DiskState) → disk.calls ≡ [] → IsDurable disk
durable_without_calls disk none = subst (λ (l : List DiskCall). (c : List ℕ) → images_after disk.start l c → c ≡ bytes_after disk.start l) (sym none) (λ c now. now)

pub durable_after_sync : (disk : DiskState) (calls : List DiskCall) → disk.calls ≡ Synced ∷ calls → IsDurable disk
durable_after_sync disk calls made = subst (λ (l : List DiskCall). (c : List ℕ) → images_after disk.start l c → c ≡ bytes_after disk.start l) (sym made) (λ c now. now)

-- ---- calls that were made

calls_added_if_cut_short : (plan old new : List DiskCall) → IsCutShort plan old new → (added : List DiskCall) × (new ≡ added ++ old)
calls_added_if_cut_short [] old new none = absurd none
calls_added_if_cut_short (Wrote at from ∷ plan) old new (inl (inl same)) = (plan, same)
calls_added_if_cut_short (Wrote at from ∷ plan) old new (inl (inr torn)) = (Failed at from torn.0 ∷ plan, torn.1)
calls_added_if_cut_short (WasRead ∷ plan) old new (inl same) = (plan, same)
calls_added_if_cut_short (Failed at from now ∷ plan) old new (inl same) = (plan, same)
calls_added_if_cut_short (Synced ∷ plan) old new (inl same) = (plan, same)
calls_added_if_cut_short (call ∷ plan) old new (inr before) = calls_added_if_cut_short plan old new before

pub is_later_after_calls : {T E : Type 0} (plan : List DiskCall) (old new : DiskState) (result : Result T E) → new.start ≡ old.start → MakesCalls plan old.calls new.calls result → IsLater old new
is_later_after_calls plan old new (Ok x) same made = record { start = same; added = plan; all = made.all }
is_later_after_calls plan old new (Err e) same made = let cut = calls_added_if_cut_short plan old.calls new.calls made.cut in record { start = same; added = cut.0; all = cut.1 }

pub reads_only_after_read : {T E : Type 0} (old new : DiskState) (result : Result T E) → CountsFault old new (IsErr result) → MakesCalls (WasRead ∷ []) old.calls new.calls result → ReadsOnly old new (IsErr result)
reads_only_after_read old new result call made = record {
  counts = call;
  adds_no_image = record { later = is_later_after_calls _ old new result call.start made; writes_nothing = reads_write_nothing old.calls new.calls result made };
}

pub reads_only_after_sync : {T E : Type 0} (old new : DiskState) (result : Result T E) → CountsFault old new (IsErr result) → MakesCalls (Synced ∷ []) old.calls new.calls result → ReadsOnly old new (IsErr result)
reads_only_after_sync old new result call made = record {
  counts = call;
  adds_no_image = record { later = is_later_after_calls _ old new result call.start made; writes_nothing = syncs_write_nothing old.calls new.calls result made };
}

-- ---- stretches of reads and syncs

-- two consecutive stretches that add no image add none together
pub adds_no_image_in_two_stretches : (old mid new : DiskState) → AddsNoImage old mid → AddsNoImage mid new → AddsNoImage old new
adds_no_image_in_two_stretches old mid new first second = record { later = is_later_transitive old mid new first.later second.later; writes_nothing = second.writes_nothing ∙ first.writes_nothing }

-- an empty stretch adds no image
pub adds_no_image_without_calls : (disk : DiskState) → AddsNoImage disk disk
adds_no_image_without_calls disk = record { later = is_later_than_itself disk; writes_nothing = refl }

no_writes_without_new_image : (old new : DiskState) (adds_no_image : AddsNoImage old new) → HasNoWrites adds_no_image.later.added
no_writes_without_new_image old new adds_no_image = has_no_writes_if_count_unchanged adds_no_image.later.added old.calls (ap writes_of (sym adds_no_image.later.all) ∙ adds_no_image.writes_nothing)

pub bytes_unchanged_without_new_image : (old new : DiskState) → AddsNoImage old new → bytes_of new ≡ bytes_of old
bytes_unchanged_without_new_image old new adds_no_image = property_in_terms_of_new_disk (λ start calls. bytes_after start calls ≡ bytes_of old) old new adds_no_image.later (bytes_unchanged_without_writes old.start adds_no_image.later.added old.calls (no_writes_without_new_image old new adds_no_image))

pub image_is_old_without_new_image : (old new : DiskState) → AddsNoImage old new → (c : List ℕ) → images_of new c → images_of old c
image_is_old_without_new_image old new adds_no_image c now = image_is_old_without_writes old.start adds_no_image.later.added old.calls c (no_writes_without_new_image old new adds_no_image) (property_in_terms_of_old_disk (λ start calls. images_after start calls c) old new adds_no_image.later now)

pub image_since_is_old_without_new_image : (old new : DiskState) → AddsNoImage old new → (t : ℕ) (c : List ℕ) → images_since t new c → images_since t old c
image_since_is_old_without_new_image old new adds_no_image t c left = image_since_is_old_without_writes old.start adds_no_image.later.added old.calls t c (no_writes_without_new_image old new adds_no_image) (property_in_terms_of_old_disk (λ start calls. images_after_since start calls t c) old new adds_no_image.later left)

pub durable_without_new_image : (old new : DiskState) → AddsNoImage old new → IsDurable old → IsDurable new
durable_without_new_image old new adds_no_image held = property_in_terms_of_new_disk (λ start calls. (c : List ℕ) → images_after start calls c → c ≡ bytes_after start calls) old new adds_no_image.later
    (durable_without_writes old.start adds_no_image.later.added old.calls (no_writes_without_new_image old new adds_no_image) held)

pub reads_only_of_equivalent_failure : (old new : DiskState) (F G : Type 0) → (F → G) → (G → F) → ReadsOnly old new F → ReadsOnly old new G
reads_only_of_equivalent_failure old new F G to from reads = record { counts = counts_fault_of_equivalent_failure old new F G to from reads.counts; adds_no_image = reads.adds_no_image }

-- two consecutive stretches of reads and syncs are one such stretch, if no call of the first failed
pub reads_only_in_two_stretches : (old mid new : DiskState) (F G : Type 0) → ¬ F → ReadsOnly old mid F → ReadsOnly mid new G → ReadsOnly old new G
reads_only_in_two_stretches old mid new F G none first second = record {
  counts = counts_fault_of_two_stretches old mid new F G none first.counts second.counts;
  adds_no_image = adds_no_image_in_two_stretches old mid new first.adds_no_image second.adds_no_image;
}

-- ---- the images of a stretch

-- a stretch that leaves only images that satisfy `P` leaves only images that satisfy the weaker `Q`
pub leaves_only_weaker_property : (old new : DiskState) (P Q : List ℕ → Type 0) → ((c : List ℕ) → P c → Q c) → LeavesOnly old new P → LeavesOnly old new Q
leaves_only_weaker_property old new P Q weaker stretch = record { later = stretch.later; each = λ c left. weaker c (stretch.each c left) }

-- if two consecutive stretches each leave only images that satisfy `P`, then so do both together
pub leaves_only_in_two_stretches : (old mid new : DiskState) (P : List ℕ → Type 0) → LeavesOnly old mid P → LeavesOnly mid new P → LeavesOnly old new P
leaves_only_in_two_stretches old mid new P first second = record {
  later = is_later_transitive old mid new first.later second.later;
  each = λ c left. ⊎_elim (λ past. first.each c past) (λ now. second.each c now) (image_since_before_or_in_stretch mid new second.later (time_of old) c left);
}

-- a change of the contents from `P` to `Q` is also a change from the weaker `R` to the weaker `S`
pub changes_of_weaker_properties : {T E : Type 0} (steps : ℕ) (old new : DiskState) (P Q R S : List ℕ → Type 0) (result : Result T E)
    → ((c : List ℕ) → P c → R c) → ((c : List ℕ) → Q c → S c) → Changes steps old new P Q result → Changes steps old new R S result
changes_of_weaker_properties steps old new P Q R S result before after change = record {
  after = on_ok_weaker result (λ (there : Q (bytes_of new)). after (bytes_of new) there) change.after;
  durable = change.durable;
  ticks = change.ticks;
  leaves = leaves_only_weaker_property old new (SatisfiesEither P Q) (SatisfiesEither R S) (λ c. ⊎_elim (λ p. inl (before c p)) (λ q. inr (after c q))) change.leaves;
}
