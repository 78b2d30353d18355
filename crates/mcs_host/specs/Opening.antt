-- The calls that the program makes to open a file, newest first. (FORMAT, "A file of the host",
-- describes them.)
use Rattle.std.specs.Prelude.{◌≡◌, ◌⊎◌, ◌+◌, ◌==◌, ℕ, min, Bool, true, false, IsTrue, IsFalse, List, [], ◌∷◌, length, codes, Option, Some, None}
use Rattle.std.specs.List.{list_all}
use Rattle.std.specs.Path.{path_parent}
use Rattle.mcs_journal.specs.declared.format.TheConstants.{FILE_SIZE, NAME, NAME_SIZE}
use Rattle.mcs_disk.specs.Disk.{part}
use Rattle.mcs_host.specs.HostCalls.{AnsweredCall, HostState, IsLink, Length, Lock, IsNamed, OpenedOrCreated, ReadAt, RealName, SetLength, SyncAll, SyncFolder, WriteAt}

-- holds if all of these bytes are 0
abbrev pub AreZeros : List ℕ → Type 0
AreZeros bytes = IsTrue (list_all (λ b. b == 0) bytes)

-- Holds if a file is blank: it has the size of a session file, and all its bytes are 0. (`IsBlank`
-- of mcs_journal requires only the first 16 bytes to be 0.)
pub record IsAllZeros (bytes : List ℕ) : Type 0 where
  pub size : length bytes ≡ FILE_SIZE
  pub zeros : AreZeros bytes

-- holds if a file has the size of a session file and begins with the name `MCS4BEN1`
pub record IsNamedSession (bytes : List ℕ) : Type 0 where
  pub size : length bytes ≡ FILE_SIZE
  pub name : part 0 NAME_SIZE bytes ≡ NAME

-- the given parent folder, or the program's working folder if there is no parent folder or its name
-- is empty
abbrev pub parent_or_working_folder : Option (List ℕ) → List ℕ
parent_or_working_folder None = codes "."
parent_or_working_folder (Some []) = codes "."
parent_or_working_folder (Some (b ∷ folder)) = b ∷ folder

-- the folder that contains the file of this name
abbrev pub folder_of : List ℕ → List ℕ
folder_of name = parent_or_working_folder (path_parent name)

-- Holds if `after` consists of `before`, followed by the calls that sync the folder of the file
-- `name`. If the name is a link, this is the folder of its real path. If `ok` is true, the folder
-- was synced; otherwise one of these calls failed. (The Bool of an `IsLink` is `false` if the call
-- failed, and also if the answer was no.)
abbrev pub FolderCalls : List ℕ → Bool → List AnsweredCall → List AnsweredCall → Type 0
FolderCalls name ok before after =
    (after ≡ SyncFolder (folder_of name) ok ∷ IsLink name false ∷ before)
    ⊎ (((real_path : List ℕ) × (after
    ≡ SyncFolder (folder_of real_path) ok ∷ RealName real_path true ∷ IsLink name true ∷ before))
    ⊎ (IsFalse ok × ((after ≡ IsLink name false ∷ before)
    ⊎ (after ≡ RealName [] false ∷ IsLink name true ∷ before))))

-- Holds if no call was made on the file after it was opened. The call that opened the file can have
-- created the file only if `create_if_missing` is true.
abbrev pub IsFreshlyOpened : Bool → List AnsweredCall → Type 0
IsFreshlyOpened create_if_missing calls = (calls ≡ []) ⊎ (IsTrue create_if_missing × (calls ≡ OpenedOrCreated ∷ []))

-- the calls `before`, then a successful lock of the file, then a check that the name still refers
-- to the file
abbrev pub locking_calls : List ℕ → List AnsweredCall → List AnsweredCall
locking_calls name before = IsNamed name true ∷ Lock true ∷ before

-- the calls `before`, then calls that set the length of the file, write `bytes` as the whole file,
-- and sync it
abbrev pub writing_calls : List ℕ → List AnsweredCall → List AnsweredCall
writing_calls bytes before =
    SyncAll true ∷ WriteAt 0 bytes true ∷ SetLength (length bytes) true ∷ before

-- Holds if, after the calls `before`, the file was synced, then its folder, and then these bytes
-- were read. If `is_name_stable` is true, the sync of the folder succeeded; otherwise it failed.
pub record IsReadAfter
    (name bytes : List ℕ) (is_name_stable : Bool) (before after : List AnsweredCall) : Type 0 where
  pub synced : List AnsweredCall
  pub folder : FolderCalls name is_name_stable (SyncAll true ∷ before) synced
  pub read : after ≡ ReadAt 0 bytes true ∷ synced

-- holds if, after the calls `before`, these bytes were written as the whole file, and the file and
-- its folder were synced
abbrev pub IsWrittenAfter : List ℕ → List ℕ → List AnsweredCall → List AnsweredCall → Type 0
IsWrittenAfter name bytes before after = FolderCalls name true (writing_calls bytes before) after

-- holds if, after the calls `before`, `written` was written and synced (`IsWrittenAfter`), and then
-- `bytes` were read
pub record IsFilledAfter
    (name written bytes : List ℕ) (before after : List AnsweredCall) : Type 0 where
  pub filled : List AnsweredCall
  pub writes : IsWrittenAfter name written before filled
  pub read : after ≡ ReadAt 0 bytes true ∷ filled

-- Holds if the file was empty, `create_if_missing` is true, and the file was filled with zeros and
-- read back.
pub record IsFilled
    (create_if_missing : Bool) (name bytes : List ℕ) (is_name_stable : Bool) (locked calls : List AnsweredCall)
    : Type 0 where
  pub may_create : IsTrue create_if_missing
  pub size : length bytes ≡ FILE_SIZE
  pub stable : IsTrue is_name_stable
  pub written : List ℕ
  pub is_blank : IsAllZeros written
  pub host_calls : IsFilledAfter name written bytes (Length 0 true ∷ locked) calls

-- Holds if the file was read, and was neither filled nor rewritten. `file_length` is the length of
-- the file. If the file is longer than a session file, only `FILE_SIZE + 1` bytes were read; this
-- shows that it is not a session file.
pub record IsRead
    (create_if_missing : Bool) (name bytes : List ℕ) (is_name_stable : Bool) (locked calls : List AnsweredCall)
    : Type 0 where
  pub file_length : ℕ
  pub size : length bytes ≡ min file_length (FILE_SIZE + 1)
  -- if `create_if_missing` is true, the file is neither empty nor blank
  pub not_empty : IsTrue create_if_missing → ¬ (file_length ≡ 0)
  pub not_blank : IsTrue create_if_missing → ¬ (IsAllZeros bytes)
  pub host_calls : IsReadAfter name bytes is_name_stable (Length file_length true ∷ locked) calls

-- Holds if the file was blank, `create_if_missing` is true, and the file was read and then written
-- again. (A blank file can have holes.)
pub record IsRewritten
    (create_if_missing : Bool) (name bytes : List ℕ) (is_name_stable : Bool) (locked calls : List AnsweredCall)
    : Type 0 where
  pub may_create : IsTrue create_if_missing
  pub is_blank : IsAllZeros bytes
  pub read : List AnsweredCall
  pub host_calls : IsReadAfter name bytes is_name_stable (Length FILE_SIZE true ∷ locked) read
  pub writes : IsWrittenAfter name bytes read calls

-- Holds if the file of this name was opened and locked, and holds these bytes. If `is_name_stable`
-- is true, its folder was synced before the bytes were read.
pub record IsOpenedFile
    (create_if_missing : Bool) (name bytes : List ℕ) (is_name_stable : Bool) (file : HostState)
    : Type 0 where
  pub named : file.name ≡ name
  pub opened : List AnsweredCall
  pub begun : IsFreshlyOpened create_if_missing opened
  pub filled_read_or_rewritten : IsFilled create_if_missing name bytes is_name_stable (locking_calls name opened) file.calls
      ⊎ (IsRead create_if_missing name bytes is_name_stable (locking_calls name opened) file.calls
      ⊎ IsRewritten create_if_missing name bytes is_name_stable (locking_calls name opened) file.calls)
