-- Lists of calls on a disk, newest first: the calls that were made, and the number of writes that
-- no sync has followed.
use Rattle.std.specs.Prelude.{◌≡◌, ◌⊎◌, ℕ, ◌+◌, ◌≤◌, List, [], ◌∷◌, ◌++◌, Result, OnOk, OnErr}
use Rattle.mcs_disk.specs.Calls.{DiskCall, WasRead, Wrote, Failed, Synced}

-- the number of writes in the list, including failed writes, that no sync has followed
abbrev pub unsynced_writes : List DiskCall → ℕ
unsynced_writes [] = 0
unsynced_writes (WasRead ∷ calls) = unsynced_writes calls
unsynced_writes (Wrote at bytes ∷ calls) = unsynced_writes calls + 1
unsynced_writes (Failed at tried seen ∷ calls) = unsynced_writes calls + 1
unsynced_writes (Synced ∷ calls) = 0

-- Holds if `new` is `old` with calls added, and at most one write is unsynced after each added
-- call. Unsynced writes of `old` count too.
pub record AtMostOneUnsynced (old new : List DiskCall) : Type 0 where
  pub added : List DiskCall
  pub all : new ≡ added ++ old
  pub each : (later earlier : List DiskCall) (call : DiskCall) → added ≡ later ++ call ∷ earlier
      → unsynced_writes (call ∷ earlier ++ old) ≤ 1

-- Holds if `new` is the list `old` after the given call failed. A failed write either adds an entry
-- `Failed` with its offset and bytes, or leaves the list unchanged. Any other failed call leaves
-- the list unchanged.
abbrev pub IsFailureOf : DiskCall → List DiskCall → List DiskCall → Type 0
IsFailureOf (Wrote at bytes) old new =
    (new ≡ old) ⊎ ((seen : List ℕ) × (new ≡ Failed at bytes seen ∷ old))
IsFailureOf call old new = new ≡ old

-- Holds if one of the given calls failed, and only the calls made before it succeeded. `old` and
-- `new` are the list before and after these calls. `IsFailureOf` states how the list records the
-- failed call.
abbrev pub IsCutShort : List DiskCall → List DiskCall → List DiskCall → Type 0
IsCutShort [] old new = ⊥
IsCutShort (call ∷ before) old new = IsFailureOf call (before ++ old) new ⊎ IsCutShort before old new

-- Holds if `new` is the list `old` after the given calls. If `result` is Ok, all of them succeeded.
-- If `result` is an error, one of them failed, and only the calls made before the failed call
-- succeeded. `IsFailureOf` states how the list records the failed call.
pub record MakesCalls {T E : Type 0} (calls old new : List DiskCall) (result : Result T E) : Type 0 where
  pub all : OnOk result (new ≡ calls ++ old)
  pub cut : OnErr result (IsCutShort calls old new)
