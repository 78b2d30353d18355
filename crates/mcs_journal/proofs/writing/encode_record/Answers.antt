use Rattle.std.proofs.Common.{◌≡◌, ◌≤◌, ◌+◌, ◌-◌, ◌/◌, ◌%◌, refl, List, [], ◌∷◌, ◌++◌, ℕ, suc, length, take, drop, set, sym, ◌∙◌, ap, arith, append_assoc, length-append}
use Rattle.std.proofs.lemmas.List.{set_at, take_at, drop_more}
use borrow.Rule.Slice.PartMut.{put_mid}
use Rattle.mcs_journal.proofs.writing.encode_record.Goals as goal

bytes_then_zero : (ys t : List ℕ) (n k : ℕ) → length ys ≡ n → k ≡ n → n + 1 ≤ length t → take (suc n) (set (ys ++ drop k t) n 0) ≡ ys ++ 0 ∷ []
bytes_then_zero ys t n k is same room =
    ap (λ (l : List ℕ). take (suc n) (set (ys ++ l) n 0)) (drop_more t k 0 (omega arith))
    ∙ ap (λ (l : List ℕ). take (suc n) l) (set_at ys _ (drop (k + 1) t) 0 n is)
    ∙ ap (λ (l : List ℕ). take (suc n) l) (sym (append_assoc ys (0 ∷ []) (drop (k + 1) t)))
    ∙ take_at (ys ++ 0 ∷ []) (drop (k + 1) t) (suc n) (omega (arith, length-append ys (0 ∷ [])))

pub length_bytes_record_then_zero : (b ys : List ℕ) (h l n m p k : ℕ) → length ys ≡ n → n + 3 ≤ length b → k ≡ n → m ≡ suc (suc n) → p ≡ suc m → take p (set (put_mid 2 k (set (set b 0 h) 1 l) ys) m 0) ≡ h ∷ l ∷ (ys ++ 0 ∷ [])
length_bytes_record_then_zero [] ys h l n m p k is room same mid end = absurd (omega arith)
length_bytes_record_then_zero (a ∷ []) ys h l n m p k is room same mid end = absurd (omega arith)
length_bytes_record_then_zero (a ∷ b ∷ t) ys h l n m p k is room same mid end =
    ap (λ (q : ℕ). take q (set (h ∷ l ∷ (ys ++ drop k t)) m 0)) (end ∙ ap suc mid)
    ∙ ap (λ (q : ℕ). take (suc (suc (suc n))) (set (h ∷ l ∷ (ys ++ drop k t)) q 0)) mid
    ∙ ap (λ (q : List ℕ). h ∷ l ∷ q) (bytes_then_zero ys t n k is same (omega arith))

pub returns : goal.returns
returns c =
    let ys = c.args.payload.now in
    ap (λ (q : List ℕ). take (length ys + 3) (set (put_mid 2 (2 + length ys - 2) (set (set c.args.buffer.now 0 (length ys / 256)) 1 (length ys % 256)) q) (2 + length ys) 0)) c.copy_from_slice.ensures.after
    ∙ length_bytes_record_then_zero c.args.buffer.now ys _ _ (length ys) (2 + length ys) (length ys + 3) (2 + length ys - 2) refl c.requires.room (omega arith) (omega arith) (omega arith)
