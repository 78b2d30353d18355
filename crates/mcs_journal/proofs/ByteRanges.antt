-- Lemmas about parts of a list of bytes after a write, which can be torn.
use Rattle.std.proofs.Common.{◌≡◌, ◌⊎◌, inl, inr, ◌≤◌, ◌<◌, ◌+◌, List, [], ◌∷◌, ◌++◌, ℕ, suc, length, take, drop, get_or, refl, sym, ◌∙◌, ap, arith, length-drop, length-take}
use Rattle.std.proofs.lemmas.List.{ext_get_or, get_or-take, get_or-drop, take-take, drop-take, drop-drop, get_or_past}
use Rattle.std.proofs.lemmas.Bool.{cases_lt}
use Rattle.mcs_disk.specs.Disk.{part, Torn}

pub length-part : (at n : ℕ) (f : List ℕ) → at + n ≤ length f → length (part at n f) ≡ n
length-part at n f fits = omega (arith, length-take n (drop at f), length-drop at f)

pub byte_of_part : (at n : ℕ) (f : List ℕ) (i : ℕ) → i < n → get_or (part at n f) i 0 ≡ get_or f (at + i) 0
byte_of_part at n f i lt = get_or-take n (drop at f) i 0 lt ∙ get_or-drop at f i 0

-- a part that does not overlap the written range is unchanged
pub part_unchanged_outside_write : (at n lo k : ℕ) (f c : List ℕ) → Torn at n f c → (lo + k ≤ at) ⊎ (at + n ≤ lo) → part lo k c ≡ part lo k f
part_unchanged_outside_write at n lo k f c torn apart =
    let long : length (part lo k c) ≡ length (part lo k f) = omega (arith, length-take k (drop lo c), length-drop lo c, length-take k (drop lo f), length-drop lo f, torn.size) in
    ext_get_or 0 _ _ long (λ i lt. at_index i (omega (arith, lt, length-take k (drop lo c))))
  where
    same : (i : ℕ) → i < k → get_or c (lo + i) 0 ≡ get_or f (lo + i) 0
    same i lt = elim apart [ inl under ↦ torn.before (lo + i) (omega (arith, under, lt)) | inr over ↦ torn.after (lo + i) (omega (arith, over)) ]

    at_index : (i : ℕ) → i < k → get_or (part lo k c) i 0 ≡ get_or (part lo k f) i 0
    at_index i lt = byte_of_part lo k c i lt ∙ same i lt ∙ sym (byte_of_part lo k f i lt)

-- within a part that contains the written range, only that range can have changed
pub part_torn_around_write : (at n lo k j : ℕ) (f c : List ℕ) → Torn at n f c → lo + k ≤ length f → at ≡ lo + j → j + n ≤ k → Torn j n (part lo k f) (part lo k c)
part_torn_around_write at n lo k j f c torn fits is inside =
    let long : length (part lo k c) ≡ k = length-part lo k c (omega (arith, fits, torn.size)) in
    record {
      size = long ∙ sym (length-part lo k f fits);
      before = λ i lt. byte_of_part lo k c i (omega (arith, lt, inside)) ∙ torn.before (lo + i) (omega (arith, lt, is)) ∙ sym (byte_of_part lo k f i (omega (arith, lt, inside)));
      after = λ i le. elim (cases_lt i k) [
        | inl lt ↦ byte_of_part lo k c i lt ∙ torn.after (lo + i) (omega (arith, le, is)) ∙ sym (byte_of_part lo k f i lt)
        | inr over ↦ get_or_past (part lo k c) i 0 (omega (arith, over, long)) ∙ sym (get_or_past (part lo k f) i 0 (omega (arith, over, length-part lo k f fits)))
      ];
    }

-- a part of a part of a list is a part of the list
pub part_of_part : (lo k j n m : ℕ) (f : List ℕ) → k ≡ j + m → n ≤ m → part j n (part lo k f) ≡ part (lo + j) n f
part_of_part lo k j n m f is inside =
    ap (λ (q : ℕ). take n (drop j (take q (drop lo f)))) is
    ∙ ap (λ (l : List ℕ). take n l) (drop-take j m (drop lo f))
    ∙ take-take n m (drop j (drop lo f)) inside
    ∙ ap (λ (l : List ℕ). take n l) (drop-drop j lo f)

-- a list that agrees with `p` at each index of `p` starts with `p`
pub begins_with_equal_bytes : (p q c : List ℕ) → length p ≤ length c → ((i : ℕ) → i < length p → get_or c i 0 ≡ get_or (p ++ q) i 0) → c ≡ p ++ drop (length p) c
begins_with_equal_bytes [] q c long same = refl
begins_with_equal_bytes (x ∷ p) q [] long same = absurd (omega arith)
begins_with_equal_bytes (x ∷ p) q (y ∷ c) long same =
    let head : y ≡ x = same 0 (omega arith) in
    let tail = begins_with_equal_bytes p q c (omega arith) (λ i lt. same (suc i) (omega (arith, lt))) in
    (λ k. head k ∷ tail k)

-- if the list `c` differs from `p ++ x ∷ q` at most in the byte after `p`, then `c` is `p`, some
-- byte, and `q`
pub differs_in_one_byte : (p q c : List ℕ) (x : ℕ) → length c ≡ length (p ++ x ∷ q) → ((i : ℕ) → i < length p → get_or c i 0 ≡ get_or (p ++ x ∷ q) i 0) → ((i : ℕ) → length p + 1 ≤ i → get_or c i 0 ≡ get_or (p ++ x ∷ q) i 0) → c ≡ p ++ get_or c (length p) 0 ∷ q
differs_in_one_byte [] q [] x long before after = absurd (omega arith)
differs_in_one_byte [] q (y ∷ c) x long before after =
    let tail : c ≡ q = ext_get_or 0 c q (omega (arith, long)) (λ i lt. after (suc i) (omega arith)) in
    ap (λ (l : List ℕ). y ∷ l) tail
differs_in_one_byte (z ∷ p) q [] x long before after = absurd (omega arith)
differs_in_one_byte (z ∷ p) q (y ∷ c) x long before after =
    let head : y ≡ z = before 0 (omega arith) in
    let tail = differs_in_one_byte p q c x (omega (arith, long)) (λ i lt. before (suc i) (omega (arith, lt))) (λ i le. after (suc i) (omega (arith, le))) in
    (λ k. head k ∷ tail k)
