-- Lemmas: cells contain the same bytes as the (address, byte) pairs that were written to them.
use Rattle.std.proofs.Common.{◌≡◌, ◌≢◌, cond, eqb, eq-eqb, find, ℕ, suc, zero, ◌+◌, ◌-◌, ◌<◌, ◌≤◌, Bool, true, false, ◌&&◌, ◌||◌, ltb, leb, List, [], ◌∷◌, ◌++◌, length, get_or, set, take, drop, Option, Some, None, refl, sym, ap, subst, ◌∙◌, ◌⊎◌, inl, inr, arith, append_assoc, append-nil, replicate}
use Rattle.std.specs.Prelude.{◌↔◌, is_some}
use Rattle.std.specs.List.{filter_map, list_any, range_with_len, Contains}
use Rattle.std.proofs.lemmas.List.{get_or-set_same, get_or-set_other, length-set}
use Rattle.std.proofs.lemmas.List.Elements.{Contains-push, Contains-push_cases, Contains-append_left, Contains-append_right, Contains-append_cases}
use Rattle.std.proofs.lemmas.List.{get_or-replicate, length-replicate, replicate_more, get_or_past, get_or-drop}
use Rattle.std.proofs.lemmas.Bool.{cases_eq, eqb-true, cases_lt, lt-ltb, le-leb, leb-true, ltb-true, and_parts, true≢false, false≢true}
use Rattle.std.proofs.lemmas.List.Folds.{list_any_at}
use Rattle.std.proofs.lemmas.Option.{none-some}
use Rattle.mcs_model.specs.Images.{by_address, from_address, overlaps}
use Rattle.mcs_asm.specs.ByteCells.{cells_after_write, pairs_from, HoldsPairs}
use Rattle.mcs_asm.specs.View.{HaveOneByteEach}

abbrev pub is_address_in_range : ℕ → ℕ → ℕ × ℕ → Bool
is_address_in_range at n p = leb at p.0 && ltb p.0 (at + n)

-- holds if no pair has the address `a`
abbrev pub IsAddressFree : List (ℕ × ℕ) → ℕ → Type 0
IsAddressFree pairs a = (b : ℕ) → Contains pairs (a, b) → ⊥

some_is_injective : (b c : ℕ) → Some b ≡ Some c → b ≡ c
some_is_injective b c e = ap (λ (o : Option ℕ). elim o [ Some x ↦ x | None ↦ 0 ]) e

-- If no pair has the address `x`, cells and pairs still agree after the byte `b` at `x` is added to
-- both.
cells_hold_pairs_after_one_write : (cells : List (Option ℕ)) (pairs : List (ℕ × ℕ)) (x b : ℕ) → x < 4096 → HoldsPairs cells pairs → IsAddressFree pairs x → HoldsPairs (set cells x (Some b)) (pairs ++ (x, b) ∷ [])
cells_hold_pairs_after_one_write cells pairs x b lt kept free =
    let within : x < length cells = omega (arith, kept.0) in (
      length-set cells x (Some b) ∙ kept.0,
      λ a c. (
        (λ e. elim (cases_eq a x) [
          | inl same ↦
              let here : get_or (set cells x (Some b)) x None ≡ Some c = subst (λ (k : ℕ). get_or (set cells x (Some b)) k None ≡ Some c) same e in
              let value : b ≡ c = some_is_injective b c (sym (get_or-set_same cells x (Some b) None within) ∙ here) in
              subst (λ (p : ℕ × ℕ). Contains (pairs ++ (x, b) ∷ []) p) (rw (same, value) refl) (Contains-push pairs (x, b))
          | inr other ↦ Contains-append_left pairs ((x, b) ∷ []) (a, c) ((kept.1 a c).0 (sym (get_or-set_other cells x a (Some b) None other) ∙ e))
        ]),
        (λ h. elim (Contains-push_cases pairs (x, b) (a, c) h) [
          | inl old ↦ elim (cases_eq a x) [
            | inl same ↦ absurd (free c (subst (λ (k : ℕ). Contains pairs (k, c)) same old))
            | inr other ↦ get_or-set_other cells x a (Some b) None other ∙ (kept.1 a c).1 old
          ]
          | inr e ↦
              let same : x ≡ a = ap (λ (p : ℕ × ℕ). p.0) e in
              let value : b ≡ c = ap (λ (p : ℕ × ℕ). p.1) e in
              rw (← same, ← value) (get_or-set_same cells x (Some b) None within)
        ]),
      ),
    )

pub stays_free_after_write : (pairs : List (ℕ × ℕ)) (x b y : ℕ) → x ≢ y → IsAddressFree pairs y → IsAddressFree (pairs ++ (x, b) ∷ []) y
stays_free_after_write pairs x b y other free c h = elim (Contains-push_cases pairs (x, b) (y, c) h) [
  | inl old ↦ free c old
  | inr e ↦ other (ap (λ (p : ℕ × ℕ). p.0) e)
]

-- If no pair has an address of the given bytes, which start at address `x`, cells and pairs still
-- agree after the bytes are added to both.
pub cells_hold_pairs_after_all_writes : (bytes : List ℕ) (x : ℕ) (cells : List (Option ℕ)) (pairs : List (ℕ × ℕ)) → x + length bytes ≤ 4096 → HoldsPairs cells pairs → ((y : ℕ) → x ≤ y → y < x + length bytes → IsAddressFree pairs y)
    → HoldsPairs (cells_after_write x bytes cells) (pairs ++ from_address x bytes)
cells_hold_pairs_after_all_writes [] x cells pairs le kept free = subst (λ (ps : List (ℕ × ℕ)). HoldsPairs cells ps) (sym (append-nil pairs)) kept
cells_hold_pairs_after_all_writes (b ∷ bytes) x cells pairs le kept free =
    let le' : x + 1 + length bytes ≤ 4096 = omega (arith, le) in
    let here : IsAddressFree pairs x = free x (omega arith) (omega arith) in
    let one : HoldsPairs (set cells x (Some b)) (pairs ++ (x, b) ∷ []) = cells_hold_pairs_after_one_write cells pairs x b (omega (arith, le)) kept here in
    let rest : HoldsPairs (cells_after_write (x + 1) bytes (set cells x (Some b))) ((pairs ++ (x, b) ∷ []) ++ from_address (x + 1) bytes) =
    cells_hold_pairs_after_all_writes bytes (x + 1) (set cells x (Some b)) (pairs ++ (x, b) ∷ []) le' one
    (λ y low high. stays_free_after_write pairs x b y (λ e. omega (arith, e, low)) (free y (omega (arith, low)) (omega (arith, high)))) in
    subst (λ (ps : List (ℕ × ℕ)). HoldsPairs (cells_after_write (x + 1) bytes (set cells x (Some b))) ps) (append_assoc pairs ((x, b) ∷ []) (from_address (x + 1) bytes)) rest

-- If bytes at the `n` addresses that start at `x` overlap no pairs, no pair has any of these
-- addresses.
pub free_if_no_overlap : (pairs : List (ℕ × ℕ)) (x n : ℕ) → overlaps pairs x n ≡ false → (y : ℕ) → x ≤ y → y < x + n → IsAddressFree pairs y
free_if_no_overlap pairs x n no_overlap y low high b contained =
    let P : ℕ × ℕ → Bool = λ p. leb x p.0 && ltb p.0 (x + n) in
    let overlapping : list_any P pairs ≡ true = list_any_at P pairs contained.0 (y, b) (contained.1) (rw contained.2 (rw (le-leb x y low, lt-ltb y (x + n) high) refl)) in
    absurd (true≢false (sym overlapping ∙ no_overlap))

-- ---- the pairs in ascending order of address

Contains-cons_cases : (p : ℕ × ℕ) (ps : List (ℕ × ℕ)) (q : ℕ × ℕ) → Contains (p ∷ ps) q → (p ≡ q) ⊎ Contains ps q
Contains-cons_cases p ps q contained = elim (Contains-append_cases (p ∷ []) ps q contained) [
  | inl (zero, lt, e) ↦ inl e
  | inl (suc k, lt, e) ↦ absurd (omega (arith, lt))
  | inr more ↦ inr more
]

Contains-head : (p : ℕ × ℕ) (ps : List (ℕ × ℕ)) → Contains (p ∷ ps) p
Contains-head p ps = (0, omega arith, refl)

-- the pair that `find` returns has the address `a` and is one of the pairs
found_pair_is_contained : (pairs : List (ℕ × ℕ)) (a : ℕ) (p : ℕ × ℕ) → find (λ (q : ℕ × ℕ). eqb q.0 a) pairs ≡ Some p → Contains pairs p × (p.0 ≡ a)
found_pair_is_contained [] a p e = absurd (none-some p e)
found_pair_is_contained (q ∷ pairs) a p e =
    (elim (eqb q.0 a) as (λ v. eqb q.0 a ≡ v → cond v (Some q) (find (λ (q : ℕ × ℕ). eqb q.0 a) pairs) ≡ Some p → Contains (q ∷ pairs) p × (p.0 ≡ a)) [
      | true ↦ λ yes f.
          let same : q ≡ p = ap (λ (o : Option (ℕ × ℕ)). elim o [ Some x ↦ x | None ↦ q ]) f in
          (subst (λ (r : ℕ × ℕ). Contains (q ∷ pairs) r) same (Contains-head q pairs), ap (λ (r : ℕ × ℕ). r.0) (sym same) ∙ eqb-true q.0 a yes)
      | false ↦ λ no f.
          let more = found_pair_is_contained pairs a p f in
          (Contains-append_right (q ∷ []) pairs p more.0, more.1)
    ]) refl e

contained_pair_is_found : (pairs : List (ℕ × ℕ)) (a b : ℕ) → Contains pairs (a, b) → find (λ (q : ℕ × ℕ). eqb q.0 a) pairs ≡ None → ⊥
contained_pair_is_found [] a b contained e = omega (arith, contained.1)
contained_pair_is_found (q ∷ pairs) a b contained e =
    (elim (eqb q.0 a) as (λ v. eqb q.0 a ≡ v → cond v (Some q) (find (λ (q : ℕ × ℕ). eqb q.0 a) pairs) ≡ None → ⊥) [
      | true ↦ λ yes f. none-some q (sym f)
      | false ↦ λ no f. elim (Contains-cons_cases q pairs (a, b) contained) [
        | inl here ↦ true≢false (sym (eq-eqb q.0 a (ap (λ (r : ℕ × ℕ). r.0) here)) ∙ no)
        | inr more ↦ contained_pair_is_found pairs a b more f
      ]
    ]) refl e

-- If the cell at an address is empty, `find` returns `None` for this address.
finds_none_if_empty : (pairs : List (ℕ × ℕ)) (a : ℕ) → ((b : ℕ) → (None ≡ Some b) ↔ Contains pairs (a, b)) → find (λ (q : ℕ × ℕ). eqb q.0 a) pairs ≡ None
finds_none_if_empty pairs a h =
    (elim (find (λ (q : ℕ × ℕ). eqb q.0 a) pairs) as (λ (o : Option (ℕ × ℕ)). find (λ (q : ℕ × ℕ). eqb q.0 a) pairs ≡ o → o ≡ None) [
      | None ↦ λ e. refl
      | Some p ↦ λ e.
          let f = found_pair_is_contained pairs a p e in
          absurd (none-some p.1 ((h p.1).1 (subst (λ (n : ℕ). Contains pairs (n, p.1)) f.1 f.0)))
    ]) refl

-- If the cell at an address has a byte, `find` returns the pair of the address and this byte.
finds_pair_of_full_cell : (pairs : List (ℕ × ℕ)) (a b : ℕ) → ((c : ℕ) → (Some b ≡ Some c) ↔ Contains pairs (a, c)) → find (λ (q : ℕ × ℕ). eqb q.0 a) pairs ≡ Some (a, b)
finds_pair_of_full_cell pairs a b h =
    (elim (find (λ (q : ℕ × ℕ). eqb q.0 a) pairs) as (λ (o : Option (ℕ × ℕ)). find (λ (q : ℕ × ℕ). eqb q.0 a) pairs ≡ o → o ≡ Some (a, b)) [
      | None ↦ λ e. absurd (contained_pair_is_found pairs a b ((h b).0 refl) e)
      | Some p ↦ λ e.
          let f = found_pair_is_contained pairs a p e in
          let value : b ≡ p.1 = some_is_injective b p.1 ((h p.1).1 (subst (λ (n : ℕ). Contains pairs (n, p.1)) f.1 f.0)) in
          ap (λ (n : ℕ). Some (n, p.1)) f.1 ∙ ap (λ (n : ℕ). Some (a, n)) (sym value)
    ]) refl

-- The pairs read from the cells, cell by cell, are the pairs that `find` returns, address by
-- address.
pairs_in_address_order : (pairs : List (ℕ × ℕ)) (cells : List (Option ℕ)) (at : ℕ) → ((k b : ℕ) → (get_or cells k None ≡ Some b) ↔ Contains pairs (at + k, b))
    → pairs_from at cells ≡ filter_map (λ a. find (λ (q : ℕ × ℕ). eqb q.0 a) pairs) (range_with_len at (length cells))
pairs_in_address_order pairs [] at h = refl
pairs_in_address_order pairs (None ∷ cells) at h =
    let here : find (λ (q : ℕ × ℕ). eqb q.0 at) pairs ≡ None = finds_none_if_empty pairs at (λ b. subst (λ (n : ℕ). (None ≡ Some b) ↔ Contains pairs (n, b)) (omega arith) (h 0 b)) in
    let more = pairs_in_address_order pairs cells (at + 1) (λ k b. subst (λ (n : ℕ). (get_or cells k None ≡ Some b) ↔ Contains pairs (n, b)) (omega arith) (h (suc k) b)) in
    rw here more
pairs_in_address_order pairs (Some v ∷ cells) at h =
    let here : find (λ (q : ℕ × ℕ). eqb q.0 at) pairs ≡ Some (at, v) = finds_pair_of_full_cell pairs at v (λ b. subst (λ (n : ℕ). (Some v ≡ Some b) ↔ Contains pairs (n, b)) (omega arith) (h 0 b)) in
    let more = pairs_in_address_order pairs cells (at + 1) (λ k b. subst (λ (n : ℕ). (get_or cells k None ≡ Some b) ↔ Contains pairs (n, b)) (omega arith) (h (suc k) b)) in
    rw here (ap (λ (l : List (ℕ × ℕ)). (at, v) ∷ l) more)

-- the image that is read from the cells has the pairs in ascending order of address
pub image_is_by_address : (cells : List (Option ℕ)) (pairs : List (ℕ × ℕ)) → HoldsPairs cells pairs → pairs_from 0 cells ≡ by_address pairs
unfolding by_address
image_is_by_address cells pairs kept =
    pairs_in_address_order pairs cells 0 (λ k b. subst (λ (n : ℕ). (get_or cells k None ≡ Some b) ↔ Contains pairs (n, b)) (omega arith) (kept.1 k b))
    ∙ ap (λ (n : ℕ). filter_map (λ a. find (λ (q : ℕ × ℕ). eqb q.0 a) pairs) (range_with_len 0 n)) kept.0

-- If cells contain exactly the given pairs, each address is below 4096, and no address has two
-- different bytes.
pub has_one_byte_each : (cells : List (Option ℕ)) (pairs : List (ℕ × ℕ)) → HoldsPairs cells pairs → HaveOneByteEach pairs
has_one_byte_each cells pairs kept = record {
  within = λ a b contained. elim (cases_lt a 4096) [
    | inl lt ↦ lt
    | inr le ↦ absurd (none-some b (sym (get_or_past cells a None (omega (arith, le, kept.0))) ∙ (kept.1 a b).1 contained))
  ];
  once = λ a b c h k. some_is_injective b c (sym ((kept.1 a b).1 h) ∙ (kept.1 a c).1 k);
}

no_byte_in_replicated_none : (n a b : ℕ) → get_or (replicate {A = Option ℕ} n None) a None ≡ Some b → ⊥
no_byte_in_replicated_none n a b e = elim (cases_lt a n) [
  | inl lt ↦ none-some b (sym (get_or-replicate n a None None lt) ∙ e)
  | inr le ↦ none-some b (sym (get_or_past (replicate n None) a None (omega (arith, le, length-replicate {A = Option ℕ} n None))) ∙ e)
]

pub empty_cells_hold_no_pairs : HoldsPairs (replicate 4096 None) []
empty_cells_hold_no_pairs = (length-replicate {A = Option ℕ} 4096 None, λ a b. ((λ e. absurd (no_byte_in_replicated_none 4096 a b e)), (λ contained. absurd (omega (arith, contained.1)))))

-- ---- The overlap test on the cells gives the same result as the overlap test on the pairs.

first_occupied_cell : (cells : List (Option ℕ)) (n : ℕ) → list_any is_some (take n cells) ≡ true → (k : ℕ) × (b : ℕ) × (k < n) × (get_or cells k None ≡ Some b)
first_occupied_cell [] zero e = absurd (false≢true e)
first_occupied_cell [] (suc n) e = absurd (false≢true e)
first_occupied_cell (c ∷ cells) zero e = absurd (false≢true e)
first_occupied_cell (Some v ∷ cells) (suc n) e = (0, v, omega arith, refl)
first_occupied_cell (None ∷ cells) (suc n) e =
    let r = first_occupied_cell cells n e in
    (suc r.0, r.1, omega (arith, r.2), r.3)

any_cell_occupied_if_one_is : (cells : List (Option ℕ)) (n k b : ℕ) → k < n → get_or cells k None ≡ Some b → list_any is_some (take n cells) ≡ true
any_cell_occupied_if_one_is [] n k b lt e = absurd (none-some b e)
any_cell_occupied_if_one_is (c ∷ cells) zero k b lt e = absurd (omega (arith, lt))
any_cell_occupied_if_one_is (Some v ∷ cells) (suc n) k b lt e = refl
any_cell_occupied_if_one_is (None ∷ cells) (suc n) zero b lt e = absurd (none-some b e)
any_cell_occupied_if_one_is (None ∷ cells) (suc n) (suc k) b lt e = any_cell_occupied_if_one_is cells n k b (omega (arith, lt)) e

pair_that_satisfies : (p : ℕ × ℕ → Bool) (pairs : List (ℕ × ℕ)) → list_any p pairs ≡ true → (x : ℕ × ℕ) × Contains pairs x × (p x ≡ true)
pair_that_satisfies p [] e = absurd (false≢true e)
pair_that_satisfies p (x ∷ pairs) e =
    let Q : Bool → Type 0 = λ t. p x ≡ t → (t || list_any p pairs) ≡ true → (y : ℕ × ℕ) × Contains (x ∷ pairs) y × (p y ≡ true) in
    (elim (p x) as Q [
      | true ↦ λ yes h. (x, Contains-head x pairs, yes)
      | false ↦ λ not_here h. let r = pair_that_satisfies p pairs h in (r.0, Contains-append_right (x ∷ []) pairs r.0 r.1, r.2)
    ]) refl e

equal_if_equivalent : (s t : Bool) → (s ≡ true → t ≡ true) → (t ≡ true → s ≡ true) → s ≡ t
equal_if_equivalent true t f g = sym (f refl)
equal_if_equivalent false true f g = g refl
equal_if_equivalent false false f g = refl

pub occupied_equals_overlaps : (cells : List (Option ℕ)) (pairs : List (ℕ × ℕ)) (at n : ℕ) → HoldsPairs cells pairs → list_any is_some (take n (drop at cells)) ≡ overlaps pairs at n
occupied_equals_overlaps cells pairs at n kept = equal_if_equivalent (list_any is_some (take n (drop at cells))) (overlaps pairs at n)
    (λ e.
    let r = first_occupied_cell (drop at cells) n e in
    let cell_has_byte : get_or cells (at + r.0) None ≡ Some r.1 = sym (get_or-drop at cells r.0 None) ∙ r.3 in
    let contained = (kept.1 (at + r.0) r.1).0 cell_has_byte in
    list_any_at (is_address_in_range at n) pairs contained.0 (at + r.0, r.1) contained.1 (rw contained.2 (rw (le-leb at (at + r.0) (omega arith), lt-ltb (at + r.0) (at + n) (omega (arith, r.2))) refl)))
    (λ e.
    let r = pair_that_satisfies (is_address_in_range at n) pairs e in
    let parts = and_parts (leb at r.0.0) (ltb r.0.0 (at + n)) r.2 in
    let low : at ≤ r.0.0 = leb-true at r.0.0 parts.0 in
    let high : r.0.0 < at + n = ltb-true r.0.0 (at + n) parts.1 in
    let k : ℕ = r.0.0 - at in
    let cell_has_byte : get_or cells r.0.0 None ≡ Some r.0.1 = (kept.1 r.0.0 r.0.1).1 r.1 in
    let back : at + k ≡ r.0.0 = omega (arith, low) in
    any_cell_occupied_if_one_is (drop at cells) n k r.0.1 (omega (arith, low, high)) (get_or-drop at cells k None ∙ rw back cell_has_byte))

pub ruleset replicate_rules = (replicate_more, length-replicate)
