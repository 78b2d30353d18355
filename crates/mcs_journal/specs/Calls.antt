-- The calls on the disk that each method of a store makes. All lists of calls are newest first.
-- (Defined by Fethsaim, not by Intel.)
use Rattle.std.specs.Prelude.{◌≡◌, ◌⊎◌, ◌+◌, ◌*◌, ℕ, List, [], ◌∷◌, ◌++◌, length, replicate, Result}
use Rattle.mcs_disk.specs.CallList.{MakesCalls}
use Rattle.mcs_disk.specs.Calls.{DiskCall, Synced, WasRead, Wrote}
use Rattle.mcs_journal.specs.File.{be16, start_of}
use Rattle.mcs_journal.specs.Writing.{IsArea, selector_of}
use Rattle.mcs_journal.specs.declared.fault.StoreFault.{StoreFault}
use Rattle.mcs_journal.specs.declared.fault.StoreFault.TheVariants as store_fault
use Rattle.mcs_journal.specs.declared.format.TheConstants.{FIRST_HEADER, SELECTOR_OFFSET}
use Rattle.mcs_journal.specs.declared.slot.Slot.{Slot}
use Rattle.mcs_journal.specs.declared.slot.Slot.TheVariants.{A}

-- the calls of a commit: a write of the given bytes at the given offset, and then a sync
abbrev pub commit_calls : ℕ → List ℕ → List DiskCall
commit_calls at bytes = Synced ∷ Wrote at bytes ∷ []

-- the given number of reads
abbrev pub read_calls : ℕ → List DiskCall
read_calls n = replicate n WasRead

-- holds if `new` is `old` after zero or more reads
pub record AreReads (old new : List DiskCall) : Type 0 where
  pub count : ℕ
  pub all : new ≡ read_calls count ++ old

-- The calls that an `append` makes. The commit byte of the record is at `commit_at`. The first
-- write has the record's length, the record, and a commit byte of 0. The second write sets the
-- commit byte at `commit_at` to 1. A sync follows each write.
abbrev pub append_calls : ℕ → List ℕ → List DiskCall
append_calls commit_at payload =
    commit_calls commit_at (1 ∷ [])
    ++ commit_calls (commit_at + 1) (be16 (length payload) ++ payload ++ 0 ∷ [])

-- The calls that a `replace` makes when it writes into `slot`. The first write puts `area` into the
-- slot (`IsArea`: a snapshot area, then a commit byte of 0). The second write sets the selector to
-- the slot. A sync follows each write.
abbrev pub replace_calls : Slot → List ℕ → List DiskCall
replace_calls slot area =
    commit_calls SELECTOR_OFFSET (selector_of slot ∷ []) ++ commit_calls (start_of slot) area

-- The calls that a `create` makes after it has read the header. The first write puts `area`
-- (`IsArea`) into the first slot, and the second write is the header. A sync follows each write.
abbrev pub create_calls : List ℕ → List DiskCall
create_calls area = commit_calls 0 FIRST_HEADER ++ commit_calls (start_of A) area

-- The calls that an `open` makes if it finds the given number of records. It makes one sync, then
-- reads: one of the header, two of the snapshot, three of each record, and one of the commit byte
-- that ends the log.
abbrev pub open_calls : ℕ → List DiskCall
open_calls records = read_calls (4 + 3 * records) ++ Synced ∷ []

-- holds if the calls `calls area` were made, all of them or up to a failed call (`MakesCalls`);
-- `area` is some area that contains the snapshot (`IsArea`)
pub record MakesWithArea {T E : Type 0} (snap : List ℕ) (calls : List ℕ → List DiskCall)
    (old new : List DiskCall) (result : Result T E) : Type 0 where
  pub area : List ℕ
  pub is_area : IsArea snap area
  pub makes_calls : MakesCalls (calls area) old new result

-- Holds if a `create` with the snapshot `snap` failed with this error, and turned the list of calls
-- `old` into `new`. (The lists do not contain failed reads and syncs.)
abbrev pub FailedCreateCalls : {T E : Type 0} → StoreFault → List ℕ → List DiskCall → List DiskCall
    → Result T E → Type 0
FailedCreateCalls store_fault.NotBlank snap old new result = (new ≡ old) ⊎ (new ≡ WasRead ∷ old)
FailedCreateCalls store_fault.Device snap old new result =
    (new ≡ old) ⊎ MakesWithArea snap create_calls (WasRead ∷ old) new result
FailedCreateCalls store_fault.NoMemory snap old new result = new ≡ old
FailedCreateCalls store_fault.NotASession snap old new result = ⊥
FailedCreateCalls store_fault.Damaged snap old new result = ⊥

-- holds if a failed `open` turned the list of calls `old` into `new`: the `open` added no call, or
-- it added a sync and then zero or more reads
abbrev pub FailedOpenCalls : List DiskCall → List DiskCall → Type 0
FailedOpenCalls old new = (new ≡ old) ⊎ AreReads (Synced ∷ old) new
