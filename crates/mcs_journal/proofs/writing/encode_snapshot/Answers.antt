use Rattle.std.proofs.Common.{◌≡◌, ◌≤◌, ◌+◌, ◌-◌, ◌/◌, ◌%◌, List, [], ◌∷◌, ◌++◌, ℕ, length, drop, set, refl, sym, ◌∙◌, ap, subst, arith, length-set, length-append, length-drop}
use Rattle.std.proofs.lemmas.List.{take_at, take-set-le, get_or-set_same}
use borrow.Rule.Slice.PartMut.{put_mid}
use Rattle.mcs_journal.specs.Writing.{IsArea}
use Rattle.mcs_journal.proofs.writing.encode_snapshot.Goals as goal

encoded_snapshot_is_area : (b ys : List ℕ) (n k : ℕ) → length ys ≡ n → k ≡ n → length b ≡ 16385 → n ≤ 16380 → IsArea ys (set (put_mid 4 k (set (set (set (set b 0 0) 1 0) 2 (n / 256)) 3 (n % 256)) ys) 16384 0)
encoded_snapshot_is_area [] ys n k is same room within_limit = absurd (omega arith)
encoded_snapshot_is_area (x ∷ []) ys n k is same room within_limit = absurd (omega arith)
encoded_snapshot_is_area (x ∷ y ∷ []) ys n k is same room within_limit = absurd (omega arith)
encoded_snapshot_is_area (x ∷ y ∷ z ∷ []) ys n k is same room within_limit = absurd (omega arith)
encoded_snapshot_is_area (x ∷ y ∷ z ∷ w ∷ t) ys n k is same room within_limit =
    let rest_length : length (ys ++ drop k t) ≡ 16381 = omega (arith, length-append ys (drop k t), length-drop k t) in
    let first : 0 ≡ length ys / 16777216 = omega (arith, is) in
    let second : 0 ≡ length ys / 65536 % 256 = omega (arith, is) in
    let third : n / 256 ≡ length ys / 256 % 256 = omega (arith, is) in
    let fourth : n % 256 ≡ length ys % 256 = ap (λ (m : ℕ). m % 256) (sym is) in
    record {
      long = omega (arith, rest_length, length-set (ys ++ drop k t) 16380 0);
      within_limit = omega (arith, is);
      snap_length = (λ i. first i ∷ second i ∷ third i ∷ fourth i ∷ []);
      snap_bytes = take-set-le (length ys) (ys ++ drop k t) 16380 0 (omega (arith, is)) ∙ take_at ys (drop k t) (length ys) refl;
      ends_log = get_or-set_same (ys ++ drop k t) 16380 0 0 (omega (arith, rest_length));
    }

pub returns : goal.returns
returns c =
    let snap = c.args.snap.now in
    subst (λ (ys : List ℕ). IsArea snap (set (put_mid 4 (4 + length snap - 4) (set (set (set (set c.args.buffer.now 0 0) 1 0) 2 (length snap / 256)) 3 (length snap % 256)) ys) 16384 0)) (sym c.copy_from_slice.ensures.after)
    (encoded_snapshot_is_area c.args.buffer.now snap (length snap) (4 + length snap - 4) refl (omega arith) c.requires.room c.requires.within_limit)
