-- The effect of calls on a disk's bytes, and the bytes that a power cut can leave after them. Lists
-- of calls are newest first. (Fethsaim defines this model of a device: the device writes ranges of
-- bytes. Before a sync, it promises only that bytes outside the written ranges are unchanged. After
-- a sync, it promises to keep all bytes. We assume this of POSIX's read, write and fdatasync on a
-- file that was synced when it was opened. POSIX itself says nothing about power cuts.)
use Rattle.std.specs.Prelude.{◌≡◌, ◌⊎◌, ℕ, zero, suc, ◌+◌, ◌≤◌, ◌<◌, List, [], ◌∷◌, length, take, drop, slice_index}

-- A call in a list of calls: a call that returned Ok, or a failed write. Failed reads and syncs are
-- not listed. A failed write that had no effect can also be missing from the list (`MakesCalls` in
-- CallList).
pub data DiskCall : Type 0 where
  -- a read that returned Ok; on an honest disk it returned the bytes that the disk held
  WasRead : DiskCall
  -- a write of these bytes at this offset that returned Ok
  Wrote : ℕ → List ℕ → DiskCall
  -- `Failed at tried seen`: a write of the bytes `tried` at offset `at` that failed, or that a
  -- close, a process kill or a power cut interrupted (`IsInterruptedInWrite` of mcs_host). A power
  -- cut can leave any bytes in the range of the write. From then on, a read of the range returns
  -- the bytes `seen`, truncated to the length of `tried`. If `seen` is shorter, a read of the rest
  -- of the range returns the same bytes as before.
  Failed : ℕ → List ℕ → List ℕ → DiskCall
  -- a sync that returned Ok: it made all bytes of the disk stable
  Synced : DiskCall

-- the `n` bytes of `file` that start at offset `at`; fewer if the file ends before that
abbrev pub part : ℕ → ℕ → List ℕ → List ℕ
part at n file = take n (drop at file)

-- the bytes of a file after a write of the given bytes at the given offset; bytes beyond the end of
-- the file are dropped
abbrev pub put : ℕ → List ℕ → List ℕ → List ℕ
put at bytes [] = []
put zero [] (y ∷ ys) = y ∷ ys
put zero (x ∷ xs) (y ∷ ys) = x ∷ put zero xs ys
put (suc at) bytes (y ∷ ys) = y ∷ put at bytes ys

-- Holds if `new` equals `old` outside the `n` bytes that start at offset `at`. Inside this range,
-- `new` can hold any bytes.
pub record Torn (at n : ℕ) (old new : List ℕ) : Type 0 where
  pub size : length new ≡ length old
  pub before : (i : ℕ) → i < at → slice_index new i ≡ slice_index old i
  pub after : (i : ℕ) → at + n ≤ i → slice_index new i ≡ slice_index old i

-- the bytes of an honest disk after these calls, if it held `start` before them
abbrev pub bytes_after : List ℕ → List DiskCall → List ℕ
bytes_after start [] = start
bytes_after start (WasRead ∷ calls) = bytes_after start calls
bytes_after start (Wrote at bytes ∷ calls) = put at bytes (bytes_after start calls)
bytes_after start (Failed at tried seen ∷ calls) =
    put at (take (length tried) seen) (bytes_after start calls)
bytes_after start (Synced ∷ calls) = bytes_after start calls

-- holds if a power cut after these calls can leave the bytes `image` on a disk that held `start`
-- before them
abbrev pub images_after : List ℕ → List DiskCall → List ℕ → Type 0
images_after start [] image = image ≡ start
images_after start (WasRead ∷ calls) image = images_after start calls image
images_after start (Wrote at bytes ∷ calls) image =
    (before : List ℕ) × images_after start calls before × Torn at (length bytes) before image
images_after start (Failed at tried seen ∷ calls) image =
    (before : List ℕ) × images_after start calls before × Torn at (length tried) before image
images_after start (Synced ∷ calls) image = image ≡ bytes_after start calls

-- a disk's clock, in ticks: the number of calls that have returned Ok
abbrev pub clock_of : List DiskCall → ℕ
clock_of [] = 0
clock_of (WasRead ∷ calls) = clock_of calls + 1
clock_of (Wrote at bytes ∷ calls) = clock_of calls + 1
clock_of (Failed at tried seen ∷ calls) = clock_of calls
clock_of (Synced ∷ calls) = clock_of calls + 1

-- Holds if a power cut can leave `image`, either after all of these calls or earlier, before the
-- newest of them. An earlier cut counts only if the clock was at `time` or later; a cut after all
-- of the calls always counts.
abbrev pub images_after_since : List ℕ → List DiskCall → ℕ → List ℕ → Type 0
images_after_since start [] time image = images_after start [] image
images_after_since start (call ∷ calls) time image =
    images_after start (call ∷ calls) image
    ⊎ ((time ≤ clock_of calls) × images_after_since start calls time image)
