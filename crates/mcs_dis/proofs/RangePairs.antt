-- The (address, byte) pairs of a ROM range are its addresses, each with its ROM byte.
use Rattle.std.proofs.Common.{◌≡◌, ℕ, zero, suc, ◌+◌, ◌-◌, ◌<◌, ◌≤◌, List, [], ◌∷◌, length, get_or, drop, refl, sym, ap, subst, ◌∙◌, arith}
use Rattle.std.proofs.lemmas.List.{length-take, length-drop, get_or-take, get_or-drop}
use Rattle.mcs_model.specs.Images.{from_address}
use Rattle.mcs_source.specs.SourceText.{range}
use Rattle.mcs_dis.specs.ParseBack.{AreRangePairs}

length-from_address : (bytes : List ℕ) (at : ℕ) → length (from_address at bytes) ≡ length bytes
length-from_address [] at = refl
length-from_address (b ∷ bytes) at = ap suc (length-from_address bytes (at + 1))

get_or-from_address : (bytes : List ℕ) (at k : ℕ) (d : ℕ × ℕ) → k < length bytes → get_or (from_address at bytes) k d ≡ (at + k, get_or bytes k 0)
get_or-from_address [] at k d lt = absurd (omega (arith, lt))
get_or-from_address (b ∷ bytes) at zero d lt =
    let here : at ≡ at + 0 = omega arith in
    ap (λ (n : ℕ). (n, b)) here
get_or-from_address (b ∷ bytes) at (suc k) d lt =
    let in_range : at + 1 + k ≡ at + suc k = omega arith in
    get_or-from_address bytes (at + 1) k d (omega (arith, lt)) ∙ ap (λ (n : ℕ). (n, get_or bytes k 0)) in_range

length-range : (rom : List ℕ) (from to : ℕ) → length rom ≡ 4096 → to ≤ 4096 → length (range rom from to) ≡ to - from
length-range rom from to all end = omega (arith, length-take (to - from) (drop from rom), length-drop from rom, all, end)

get_or-range : (rom : List ℕ) (from to k : ℕ) → k < to - from → get_or (range rom from to) k 0 ≡ get_or rom (from + k) 0
get_or-range rom from to k lt = get_or-take (to - from) (drop from rom) k 0 lt ∙ get_or-drop from rom k 0

pub range_pairs : (rom : List ℕ) (from to : ℕ) → length rom ≡ 4096 → to ≤ 4096 → AreRangePairs rom from to
range_pairs rom from to all end =
    let bytes : List ℕ = range rom from to in
    let len : length (range rom from to) ≡ to - from = length-range rom from to all end in
    λ p. (
      (λ contained.
          let k : ℕ = contained.0 in
          let short : contained.0 < length (range rom from to) = subst (λ (n : ℕ). contained.0 < n) (length-from_address (range rom from to) from) contained.1 in
          let index_in_range : contained.0 < to - from = omega (arith, short, len) in
          let is : (from + contained.0, get_or (range rom from to) contained.0 0) ≡ p = sym (get_or-from_address (range rom from to) from contained.0 p short) ∙ contained.2 in
          let at : from + contained.0 ≡ p.0 = ap (λ (q : ℕ × ℕ). q.0) is in
          let byte : get_or (range rom from to) contained.0 0 ≡ p.1 = ap (λ (q : ℕ × ℕ). q.1) is in
          (omega (arith, at), omega (arith, at, index_in_range), subst (λ (n : ℕ). get_or rom n 0 ≡ p.1) at (sym (get_or-range rom from to contained.0 index_in_range) ∙ byte))),
      (λ in_range.
          let k : ℕ = p.0 - from in
          let index_in_range : p.0 - from < to - from = omega (arith, in_range.0, in_range.1) in
          let short : p.0 - from < length (range rom from to) = omega (arith, index_in_range, len) in
          let at : from + (p.0 - from) ≡ p.0 = omega (arith, in_range.0) in
          let byte : get_or (range rom from to) (p.0 - from) 0 ≡ p.1 =
          get_or-range rom from to (p.0 - from) index_in_range ∙ (ap (λ (n : ℕ). get_or rom n 0) at ∙ in_range.2) in (
            p.0 - from,
            subst (λ (n : ℕ). p.0 - from < n) (sym (length-from_address (range rom from to) from)) short,
            get_or-from_address (range rom from to) from (p.0 - from) p short ∙ (ap (λ (n : ℕ). (n, get_or (range rom from to) (p.0 - from) 0)) at ∙ ap (λ (b : ℕ). (p.0, b)) byte),
          )),
    )
