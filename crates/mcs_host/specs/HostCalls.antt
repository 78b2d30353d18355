-- The calls on an open file of the host, each with its answer. The program makes them with flock
-- and with POSIX's stat, ftruncate, pread, pwrite, fsync and fdatasync.
use Rattle.std.specs.Prelude.{◌≡◌, ℕ, ℤ, Bool, true, false, List, ◌∷◌, Result, Ok, Err, OnOk}

-- A call on a file. The Bool is true if the call returned Ok and, for a question, the answer was
-- yes. If the Bool is false, a length or a real path in the call has no meaning.
pub data AnsweredCall : Type 0 where
  -- a request for the exclusive lock, without waiting; the Bool is true if the host granted the
  -- lock
  Lock : Bool → AnsweredCall
  -- the question whether this name refers to the file; the Bool is true if it does
  IsNamed : List ℕ → Bool → AnsweredCall
  -- a request for the length of the file; the number is the length that the host returned
  Length : ℕ → Bool → AnsweredCall
  -- a request to set the length of the file to this number of bytes
  SetLength : ℕ → Bool → AnsweredCall
  -- a request to read at this offset; the list has as many bytes as were requested and, if the call
  -- returned Ok, it is the bytes that were read
  ReadAt : ℕ → List ℕ → Bool → AnsweredCall
  -- a request to write these bytes at this offset
  WriteAt : ℕ → List ℕ → Bool → AnsweredCall
  -- a request to sync the bytes of the file
  SyncData : Bool → AnsweredCall
  -- a request to sync the bytes and the length of the file
  SyncAll : Bool → AnsweredCall
  -- a request to sync the folder of this name
  SyncFolder : List ℕ → Bool → AnsweredCall
  -- the question whether this name is a symbolic link; the Bool is true if it is
  IsLink : List ℕ → Bool → AnsweredCall
  -- a request for the file's real path, without symbolic links; the list is the path that the host
  -- returned
  RealName : List ℕ → Bool → AnsweredCall
  -- the call that opened the file and created it if it was missing
  OpenedOrCreated : AnsweredCall

-- the state of an open file of the host: everything that a contract can see of it
pub record HostState : Type 0 where
  -- the name with which the file was opened
  pub name : List ℕ
  -- the file's descriptor: the host's number for the open file
  pub number : ℤ
  -- the calls on the file since it was opened, newest first
  pub calls : List AnsweredCall

-- the state of the file after one more call
abbrev pub after_call : AnsweredCall → HostState → HostState
after_call call file = record file { calls = call ∷ file.calls }

-- holds if the name and the descriptor are unchanged; the calls can differ
pub record KeepsNameAndNumber (old new : HostState) : Type 0 where
  pub name : new.name ≡ old.name
  pub number : new.number ≡ old.number

-- holds if the file was opened with this name, and exactly these calls were made on it
pub record HasCalls (name : List ℕ) (calls : List AnsweredCall) (file : HostState) : Type 0 where
  pub named : file.name ≡ name
  pub same_calls : file.calls ≡ calls

-- true if the result is Ok and its value is true
abbrev pub is_yes : {E : Type 0} → Result Bool E → Bool
is_yes (Ok answer) = answer
is_yes (Err e) = false

-- Holds if exactly one call was made: a read at offset `at`, with the bytes `into`. If `result` is
-- Ok, that call returned Ok.
abbrev pub MakesReadCall : {T E : Type 0} → ℕ → List ℕ → Result T E → HostState → HostState → Type 0
MakesReadCall at into result old new =
    (ok : Bool) × (new ≡ after_call (ReadAt at into ok) old) × OnOk result (ok ≡ true)
