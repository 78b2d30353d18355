-- A change of a durable disk in two commits, each a write and a sync.
use Rattle.std.proofs.Common.{◌≡◌, inl, ⊎_elim, ◌+◌, ℕ, List, length, arith, Result, Ok, subst, sym}
use Rattle.std.proofs.lemmas.Result.{on_ok_weaker}
use Rattle.mcs_disk.specs.Disk.{DiskState, Torn, part, bytes_of, time_of}
use Rattle.mcs_disk.proofs.CallLaws.{torn_without_change}
use Rattle.mcs_disk.specs.Changes.{Changes}
use Rattle.mcs_disk.specs.Stretches.{LeavesOnly, SatisfiesEither}
use Rattle.mcs_disk.specs.PowerCut.{IsDurable}
use Rattle.mcs_disk.proofs.StretchComposition.{leaves_only_in_two_stretches}
use Rattle.mcs_journal.specs.Writing.{CommitsBytes}

-- Suppose that `P` holds for the bytes after each torn write of `from`. Then a commit of `from` on
-- a durable disk leaves only images for which `P` holds.
commit_leaves_only : {T E : Type 0} (old new : DiskState) (P : List ℕ → Type 0) (at : ℕ) (from : List ℕ) (result : Result T E)
    → IsDurable old → ((c : List ℕ) → Torn at (length from) (bytes_of old) c → P c) → CommitsBytes at from old new result → LeavesOnly old new P
commit_leaves_only old new P at from result durable torn step = record {
  later = step.later;
  each = λ c left.
      ⊎_elim
      (λ past. torn c (subst (Torn at (length from) (bytes_of old)) (sym (durable c past)) (torn_without_change at (length from) (bytes_of old))))
      (λ now. torn c (subst (λ (f : List ℕ). Torn at (length from) f c) (durable (now.0) (now.1)) (now.2)))
      (step.each c left);
}

-- The first commit leaves the old contents. The second leaves the old or the new contents.
module _ (old mid : DiskState) (Before After : List ℕ → Type 0) (at : ℕ) (from : List ℕ) (durable : IsDurable old)
    (torn : (c : List ℕ) → Torn at (length from) (bytes_of old) c → Before c) where
  pub first_step : {T E : Type 0} (result : Result T E) → CommitsBytes at from old mid result → LeavesOnly old mid (SatisfiesEither Before After)
  first_step result step = commit_leaves_only old mid (SatisfiesEither Before After) at from result durable (λ c tear. inl (torn c tear)) step

  pub both_steps : {T E U V : Type 0} (x : U) (new : DiskState) (place : ℕ) (last : List ℕ) (result : Result T E)
      → ((c : List ℕ) → Torn place (length last) (bytes_of mid) c → SatisfiesEither Before After c) → (part place (length last) (bytes_of new) ≡ last → Torn place (length last) (bytes_of mid) (bytes_of new) → After (bytes_of new))
      → CommitsBytes {T = U} {E = V} at from old mid (Ok x) → CommitsBytes place last mid new result → Changes 4 old new Before After result
  both_steps x new place last result either_way done first second = record {
    after = on_ok_weaker result (λ (here : part place (length last) (bytes_of new) ≡ last). done here second.outside) second.written;
    durable = second.durable;
    ticks = on_ok_weaker result (λ (two : time_of new ≡ time_of mid + 2). omega (arith, two, first.ticks)) second.ticks;
    leaves = leaves_only_in_two_stretches old mid new (SatisfiesEither Before After) (first_step (Ok x) first) (commit_leaves_only mid new (SatisfiesEither Before After) place last result first.durable either_way second);
  }
