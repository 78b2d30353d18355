-- The bytes of a disk after a write, and after a failed write.
use Rattle.std.proofs.Common.{◌≡◌, ℕ, zero, suc, ◌+◌, ◌≤◌, List, [], ◌∷◌, ◌++◌, length, take, drop, refl, sym, ◌∙◌, ap, arith, length-take}
use Rattle.std.proofs.lemmas.List.{drop_at, take_at}
use Rattle.mcs_disk.specs.Calls.{bytes_after, part, put}
use Rattle.mcs_disk.specs.NotedCalls.{calls_in}
use Rattle.mcs_disk.specs.declared.call_record.Call.{Call}
use Rattle.mcs_disk.specs.declared.call_record.Call.TheVariants.{FailedWrite}
use Rattle.mcs_disk.specs.declared.record.Record.{Record}

pub put_as_three_parts : (at k : ℕ) (from file : List ℕ) → at + length from ≤ length file → k ≡ length from → put at from file ≡ take at file ++ (from ++ drop k (drop at file))
put_as_three_parts zero k [] [] fits is = ap (λ (n : ℕ). drop n []) (sym is)
put_as_three_parts zero k [] (y ∷ ys) fits is = ap (λ (n : ℕ). drop n (y ∷ ys)) (sym is)
put_as_three_parts zero k (x ∷ xs) [] fits is = absurd (omega arith)
put_as_three_parts zero zero (x ∷ xs) (y ∷ ys) fits is = absurd (omega arith)
put_as_three_parts zero (suc k) (x ∷ xs) (y ∷ ys) fits is = ap (λ (l : List ℕ). x ∷ l) (put_as_three_parts zero k xs ys (omega arith) (omega arith))
put_as_three_parts (suc at) k from [] fits is = absurd (omega arith)
put_as_three_parts (suc at) k from (y ∷ ys) fits is = ap (λ (l : List ℕ). y ∷ l) (put_as_three_parts at k from ys (omega arith) is)

pub part_of_put_is_written_bytes : (at : ℕ) (from file : List ℕ) → at + length from ≤ length file → part at (length from) (put at from file) ≡ from
part_of_put_is_written_bytes at from file fits =
    ap (part at (length from)) (put_as_three_parts at (length from) from file fits refl)
    ∙ ap (λ (l : List ℕ). take (length from) l) (drop_at (take at file) (from ++ drop (length from) (drop at file)) at (omega (arith, fits, length-take at file)))
    ∙ take_at from (drop (length from) (drop at file)) (length from) refl

put_of_no_bytes : (at n : ℕ) (file : List ℕ) → put at (take n []) file ≡ file
put_of_no_bytes at n [] = refl
put_of_no_bytes zero zero (y ∷ ys) = refl
put_of_no_bytes zero (suc n) (y ∷ ys) = refl
put_of_no_bytes (suc at) n (y ∷ ys) = ap (λ (l : List ℕ). y ∷ l) (put_of_no_bytes at n ys)

-- if the calls of the record `h` leave the bytes `b`, these calls followed by a failed write also
-- leave `b`
pub bytes_unchanged_by_failed_write : (h h' : Record Call) (at : ℕ) (from b : List ℕ) → h' ≡ record h { notes = (FailedWrite at, from) ∷ h.notes } → b ≡ bytes_after h.start (calls_in h.notes) → b ≡ bytes_after h'.start (calls_in h'.notes)
bytes_unchanged_by_failed_write h h' at from b lists_call kept = rw lists_call (kept ∙ sym (put_of_no_bytes at (length from) (bytes_after h.start (calls_in h.notes))))
