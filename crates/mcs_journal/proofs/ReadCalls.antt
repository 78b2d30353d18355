-- The list of disk calls after consecutive reads, and after a read that failed.
use Rattle.std.proofs.Common.{◌≡◌, ◌+◌, List, [], ◌∷◌, ◌++◌, ℕ, sym, ◌∙◌, ap, append_assoc, Result, Ok, Err, OnErr, ⊎_elim}
use Rattle.std.proofs.lemmas.List.{replicate-append-replicate}
use Rattle.mcs_disk.specs.CallList.{MakesCalls}
use Rattle.mcs_disk.specs.Calls.{DiskCall, WasRead}
use Rattle.mcs_journal.specs.Calls.{AreReads, read_calls}

pub holds_on_error : {T E P : Type 0} (result : Result T E) → P → OnErr result P
holds_on_error (Ok x) p = tt
holds_on_error (Err e) p = p

pub read_calls_add_up : (a b : ℕ) (old mid new : List DiskCall) → mid ≡ read_calls a ++ old → new ≡ read_calls b ++ mid → new ≡ read_calls (b + a) ++ old
read_calls_add_up a b old mid new first second =
    second ∙ ap (λ (l : List DiskCall). read_calls b ++ l) first ∙ sym (append_assoc (read_calls b) (read_calls a) old)
    ∙ ap (λ (l : List DiskCall). l ++ old) (replicate-append-replicate b a WasRead)

pub are_reads_after_read_calls : (a : ℕ) (old mid new : List DiskCall) → mid ≡ read_calls a ++ old → AreReads mid new → AreReads old new
are_reads_after_read_calls a old mid new first then_some = record { count = then_some.count + a; all = read_calls_add_up a then_some.count old mid new first then_some.all }

-- a read that failed adds no call to the list
pub are_reads_after_failed_read : {T E : Type 0} (old new : List DiskCall) (e : E) → MakesCalls {T = T} {E = E} (WasRead ∷ []) old new (Err e) → AreReads old new
are_reads_after_failed_read old new e made = record { count = 0; all = ⊎_elim (λ same. same) (λ none. absurd none) made.cut }

-- a read that returned Ok adds one read to the list
pub one_read_call_after_ok : {T E : Type 0} (old new : List DiskCall) (x : T) → MakesCalls {T = T} {E = E} (WasRead ∷ []) old new (Ok x) → new ≡ read_calls 1 ++ old
one_read_call_after_ok old new x made = made.all

pub property_of_error : {T E P : Type 0} (result : Result T E) (e : E) → result ≡ Err e → OnErr result P → P
property_of_error (Ok x) e is p = absurd (no is)
  where
    no : Ok x ≡ Err e → ⊥
    no same = cc
property_of_error (Err f) e is p = p
