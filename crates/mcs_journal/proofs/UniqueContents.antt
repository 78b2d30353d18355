-- A file holds at most one snapshot with one list of records.
use Rattle.std.proofs.Common.{◌≡◌, ◌≢◌, ◌≤◌, ◌+◌, ◌/◌, ◌%◌, List, [], ◌∷◌, ◌++◌, ℕ, length, take, drop, refl, sym, ◌∙◌, ap, arith, append_assoc}
use Rattle.std.proofs.lemmas.List.{take_at, drop_at}
use Rattle.mcs_disk.specs.Disk.{part}
use Rattle.mcs_journal.specs.File.{Holds, frames_of, be32, slot_at}

-- if the records of two logs each end with a commit byte that is not 1 (`g` and `h`), and the logs
-- have equal bytes, then the logs have equal records
equal_frames_have_equal_records : (rs ss : List (List ℕ)) (g h : ℕ) (xs ys : List ℕ) → g ≢ 1 → h ≢ 1 → frames_of rs ++ g ∷ xs ≡ frames_of ss ++ h ∷ ys → rs ≡ ss
equal_frames_have_equal_records [] [] g h xs ys ends_first_log ends_log same = refl
equal_frames_have_equal_records [] (s ∷ ss) g h xs ys ends_first_log ends_log same = let one : g ≡ 1 = cc in absurd (ends_first_log one)
equal_frames_have_equal_records (r ∷ rs) [] g h xs ys ends_first_log ends_log same = let one : h ≡ 1 = cc in absurd (ends_log one)
equal_frames_have_equal_records (r ∷ rs) (s ∷ ss) g h xs ys ends_first_log ends_log same =
    let high : length r / 256 ≡ length s / 256 = cc in
    let low : length r % 256 ≡ length s % 256 = cc in
    let long : length r ≡ length s = omega (arith, high, low) in
    let tails : (r ++ frames_of rs) ++ g ∷ xs ≡ (s ++ frames_of ss) ++ h ∷ ys = cc in
    let apart : r ++ (frames_of rs ++ g ∷ xs) ≡ s ++ (frames_of ss ++ h ∷ ys) = sym (append_assoc r (frames_of rs) (g ∷ xs)) ∙ tails ∙ append_assoc s (frames_of ss) (h ∷ ys) in
    let head : r ≡ s = sym (take_at r (frames_of rs ++ g ∷ xs) (length r) refl) ∙ ap (λ (l : List ℕ). take (length r) l) apart ∙ take_at s (frames_of ss ++ h ∷ ys) (length r) (sym long) in
    let rest : frames_of rs ++ g ∷ xs ≡ frames_of ss ++ h ∷ ys = sym (drop_at r (frames_of rs ++ g ∷ xs) (length r) refl) ∙ ap (λ (l : List ℕ). drop (length r) l) apart ∙ drop_at s (frames_of ss ++ h ∷ ys) (length r) (sym long) in
    let more = equal_frames_have_equal_records rs ss g h xs ys ends_first_log ends_log rest in
    (λ k. head k ∷ more k)

-- two numbers up to 16,380 are equal if their four bytes (`be32`) are equal
be32_is_injective : (m n : ℕ) → m ≤ 16380 → n ≤ 16380 → be32 m ≡ be32 n → m ≡ n
be32_is_injective m n file_size within_limit same =
    let high : m / 256 % 256 ≡ n / 256 % 256 = cc in
    let low : m % 256 ≡ n % 256 = cc in
    omega (arith, high, low)

pub snapshot_is_unique : (file snap other : List ℕ) (rs ss : List (List ℕ)) → Holds file snap rs → Holds file other ss → snap ≡ other
snapshot_is_unique file snap other rs ss a b =
    let long = be32_is_injective (length snap) (length other) a.within_limit b.within_limit (sym a.snap_length ∙ b.snap_length) in
    sym a.snap_bytes ∙ ap (λ (n : ℕ). part (slot_at file + 4) n file) long ∙ b.snap_bytes

pub records_are_unique : (file snap other : List ℕ) (rs ss : List (List ℕ)) → Holds file snap rs → Holds file other ss → rs ≡ ss
records_are_unique file snap other rs ss a b = equal_frames_have_equal_records rs ss _ _ _ _ a.log.ends_log b.log.ends_log (sym a.log.is ∙ b.log.is)
