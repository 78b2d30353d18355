-- The contents of a session file: a snapshot and the records after it. (Defined by Fethsaim, not by
-- Intel. docs/FORMAT.md describes the layout, and src/format.rt defines its sizes as constants.)
use Rattle.std.specs.Prelude.{◌≡◌, ◌≢◌, ◌⊎◌, ◌==◌, Bool, nat_le, ℕ, ◌+◌, ◌/◌, ◌%◌, ◌≤◌, List, [], ◌∷◌, ◌++◌, length, slice_index, if◌then◌else◌}
use Rattle.mcs_disk.specs.Disk.{DiskState, bytes_of, part, size_of}
use Rattle.mcs_journal.specs.declared.format.TheConstants.{AREA_SIZE, FILE_SIZE, FIRST_SLOT, LOG_SIZE, MAX_RECORD_SIZE, MAX_SNAPSHOT_SIZE, NAME, SECOND_SLOT, ZEROS}
use Rattle.mcs_journal.specs.declared.slot.Slot.{Slot}
use Rattle.mcs_journal.specs.declared.slot.Slot.TheVariants.{A, B}

-- the offset of a slot in the file
abbrev pub start_of : Slot → ℕ
start_of A = FIRST_SLOT
start_of B = SECOND_SLOT

-- the slot that a selector selects: the first if the selector is even, the second if the selector
-- is odd
abbrev pub slot_selected_by : ℕ → Slot
slot_selected_by selector = if selector % 2 == 0 then A else B

-- the active slot of a file: the slot that the selector byte selects
abbrev pub slot_of : List ℕ → Slot
slot_of file = slot_selected_by (slice_index file 8)

-- the offset of the active slot of a file
abbrev pub slot_at : List ℕ → ℕ
slot_at file = start_of (slot_of file)

-- A number as two bytes (`be16`) and as four bytes (`be32`), big-endian. If the number is below
-- 2^16 or 2^32 respectively, these are the bytes that std's `to_be_bytes` returns.
abbrev pub be16 : ℕ → List ℕ
be16 n = n / 256 ∷ n % 256 ∷ []

abbrev pub be32 : ℕ → List ℕ
be32 n = n / 16777216 ∷ n / 65536 % 256 ∷ n / 256 % 256 ∷ n % 256 ∷ []

-- the frame of a record: a commit byte of 1, the record's length in two bytes, and the record
abbrev pub frame_of : List ℕ → List ℕ
frame_of payload = 1 ∷ (be16 (length payload) ++ payload)

-- the frames of the given records, one after another
abbrev pub frames_of : List (List ℕ) → List ℕ
frames_of [] = []
frames_of (r ∷ rs) = frame_of r ++ frames_of rs

-- holds if a record has a valid length: at least 1 byte and at most `MAX_RECORD_SIZE` bytes
abbrev pub IsRecord : List ℕ → Type 0
IsRecord r = (1 ≤ length r) × (length r ≤ MAX_RECORD_SIZE)

-- holds if each record has a valid length
abbrev pub AreRecords : List (List ℕ) → Type 0
AreRecords [] = Unit {0}
AreRecords (r ∷ rs) = IsRecord r × AreRecords rs

-- holds if a log holds these records: it begins with their frames, then has a commit byte that is
-- not 1, and then any bytes
pub record IsLog (records : List (List ℕ)) (log : List ℕ) : Type 0 where
  pub commit_byte : ℕ
  pub rest : List ℕ
  pub is : log ≡ frames_of records ++ commit_byte ∷ rest
  pub ends_log : commit_byte ≢ 1
  pub records_ok : AreRecords records

-- Holds if a file holds this snapshot and these records. The file begins with the name, the
-- selector and seven zeros. The active slot has the length of the snapshot, the snapshot, and the
-- log of the records.
pub record Holds (file : List ℕ) (snap : List ℕ) (records : List (List ℕ)) : Type 0 where
  pub size : length file ≡ FILE_SIZE
  pub name : part 0 8 file ≡ NAME
  pub zeros : part 9 7 file ≡ ZEROS
  pub within_limit : length snap ≤ MAX_SNAPSHOT_SIZE
  pub snap_length : part (slot_at file) 4 file ≡ be32 (length snap)
  pub snap_bytes : part (slot_at file + 4) (length snap) file ≡ snap
  pub log : IsLog records (part (slot_at file + AREA_SIZE) LOG_SIZE file)

-- holds if every file holds at most one snapshot with one list of records
abbrev pub ContentsAreUnique : Type 0
ContentsAreUnique =
    (file snap other : List ℕ) (records more : List (List ℕ))
    → Holds file snap records → Holds file other more → (snap ≡ other) × (records ≡ more)

-- Holds if a log has room for a record of `size` bytes after `used` bytes of frames. Besides the
-- record, there must be room for the commit byte and the length before it, and for another commit
-- byte after it.
abbrev pub HasRoom : ℕ → ℕ → Type 0
HasRoom used size = used + 3 + size + 1 ≤ LOG_SIZE

-- true if the log has room for the record: `HasRoom` as a boolean
abbrev pub has_room : ℕ → ℕ → Bool
has_room used size = nat_le (used + 3 + size + 1) LOG_SIZE

-- holds if a disk is not a session file: its size or its name is wrong
abbrev pub IsNotSessionFile : DiskState → Type 0
IsNotSessionFile disk = (size_of disk ≢ FILE_SIZE) ⊎ (part 0 8 (bytes_of disk) ≢ NAME)

abbrev pub sixteen_zeros : List ℕ
sixteen_zeros = 0 ∷ 0 ∷ 0 ∷ 0 ∷ 0 ∷ 0 ∷ 0 ∷ 0 ∷ 0 ∷ 0 ∷ 0 ∷ 0 ∷ 0 ∷ 0 ∷ 0 ∷ 0 ∷ []

-- Holds if a session can be created on the disk: it has the size of a session file, and its first
-- 16 bytes are 0.
abbrev pub IsBlank : DiskState → Type 0
IsBlank disk = (size_of disk ≡ FILE_SIZE) × (part 0 16 (bytes_of disk) ≡ sixteen_zeros)
