-- Lemmas about `column` and `flat_rows`: their lengths, their elements, and their change if one
-- element of `xs` is replaced.
use Rattle.std.proofs.Common.{◌≡◌, ◌≢◌, ℕ, ◌+◌, ◌*◌, ◌/◌, ◌%◌, ◌<◌, inl, inr, List, length, get_or, slice_set, slice_index, refl, sym, ap, ◌∙◌, arith, get_or-set_same, get_or-set_other, replicate}
use Rattle.std.proofs.Math.Nat.{div-add-mod, mul-le-mul_right}
use Rattle.std.proofs.lemmas.Nat.{div-mul-add, mod-mul-add}
use Rattle.std.proofs.lemmas.Grind.{get_or-set_at}
use Rattle.std.proofs.lemmas.Bool.{cases_eq}
use Rattle.std.proofs.lemmas.List.{get_or-replicate, length-replicate}
use Rattle.mcs_nibble.specs.Tables.{column, flat_rows}
use Rattle.mcs_nibble.proofs.TableLemmas.{set-table_of, table_of-equal_functions, get_or-table_of, table_of-unique, length-table_of}

-- if `f` has the same value for `e` and for element `i`, replacing element `i` by `e` changes no
-- value of `f` on the list
pub value_unchanged-by_set : {X Y : Type 0} (f : X → Y) (d : X) (xs : List X) (i j : ℕ) (e : X) → i < length xs → f e ≡ f (get_or xs i d) → f (get_or (slice_set xs i e) j d) ≡ f (get_or xs j d)
value_unchanged-by_set f d xs i j e l same =
    elim (cases_eq j i) [
      | inl q ↦ ap f (get_or-set_at xs i j e d q l) ∙ same ∙ ap (λ m. f (get_or xs m d)) (sym q)
      | inr ne ↦ ap f (get_or-set_other xs i j e d ne)
    ]

pub get-column : {X : Type 0} (n : ℕ) (f : X → ℕ) (d : X) (xs : List X) (i : ℕ) → i < n → slice_index (column n f d xs) i ≡ f (get_or xs i d)
unfolding column
get-column n f d xs i h = get_or-table_of n _ i 0 h

pub column-unchanged : {X : Type 0} (n : ℕ) (f : X → ℕ) (d : X) (xs : List X) (i : ℕ) (e : X) → i < length xs → f e ≡ f (get_or xs i d) → column n f d (slice_set xs i e) ≡ column n f d xs
unfolding column
column-unchanged n f d xs i e l same = table_of-equal_functions n _ _ (λ k _. value_unchanged-by_set f d xs i k e l same)

pub set-column : {X : Type 0} (n : ℕ) (f : X → ℕ) (d : X) (xs : List X) (i : ℕ) (e : X) (v : ℕ) → i < n → i < length xs → f e ≡ v → column n f d (slice_set xs i e) ≡ slice_set (column n f d xs) i v
unfolding column
set-column n f d xs i e v h l is =
    sym (set-table_of n _ _ i v h (ap f (get_or-set_at xs i i e d refl l) ∙ is) (λ k _ ne. ap f (get_or-set_other xs i k e d ne)))

pub flat_rows-unchanged : {X : Type 0} (n row_width : ℕ) (f : X → List ℕ) (d : X) (xs : List X) (i : ℕ) (e : X) → i < length xs → f e ≡ f (get_or xs i d) → flat_rows n row_width f d (slice_set xs i e) ≡ flat_rows n row_width f d xs
unfolding flat_rows
flat_rows-unchanged n row_width f d xs i e l same = table_of-equal_functions (n * row_width) _ _ (λ k _. ap (λ ys. slice_index ys (k % row_width)) (value_unchanged-by_set f d xs i (k / row_width) e l same))

pub flat_index-lt : (n row_width i k : ℕ) → i < n → k < row_width → i * row_width + k < n * row_width
flat_index-lt n row_width i k h l = omega (arith, mul-le-mul_right {m = i + 1} {n = n} row_width (omega arith))

pub get-flat_rows : {X : Type 0} (n row_width : ℕ) (f : X → List ℕ) (d : X) (xs : List X) (i k : ℕ) → i < n → k < row_width → slice_index (flat_rows n row_width f d xs) (i * row_width + k) ≡ slice_index (f (get_or xs i d)) k
unfolding flat_rows
get-flat_rows n row_width f d xs i k h l =
    get_or-table_of (n * row_width) _ (i * row_width + k) 0 (flat_index-lt n row_width i k h l)
    ∙ ap (λ j. slice_index (f (get_or xs j d)) ((i * row_width + k) % row_width)) (div-mul-add i row_width k l)
    ∙ ap (λ j. slice_index (f (get_or xs i d)) j) (mod-mul-add i row_width k l)

-- if row `i` changes only at index `k`, `flat_rows` changes only at index `i * row_width + k`
pub set-flat_rows : {X : Type 0} (n row_width : ℕ) (f : X → List ℕ) (d : X) (xs : List X) (i k : ℕ) (e : X) (v : ℕ) → i < n → k < row_width → i < length xs → k < length (f (get_or xs i d)) → f e ≡ slice_set (f (get_or xs i d)) k v → flat_rows n row_width f d (slice_set xs i e) ≡ slice_set (flat_rows n row_width f d xs) (i * row_width + k) v
unfolding flat_rows
set-flat_rows n row_width f d xs i k e v h l len inner is =
    let value_at_index : slice_index (f (get_or (slice_set xs i e) ((i * row_width + k) / row_width) d)) ((i * row_width + k) % row_width) ≡ v =
    ap (λ j. slice_index (f (get_or (slice_set xs i e) j d)) ((i * row_width + k) % row_width)) (div-mul-add i row_width k l)
    ∙ ap (λ j. slice_index (f (get_or (slice_set xs i e) i d)) j) (mod-mul-add i row_width k l)
    ∙ ap (λ x. slice_index (f x) k) (get_or-set_at xs i i e d refl len)
    ∙ ap (λ ys. slice_index ys k) is
    ∙ get_or-set_same (f (get_or xs i d)) k v 0 inner in
    sym (set-table_of (n * row_width) _ _ (i * row_width + k) v (flat_index-lt n row_width i k h l) value_at_index
    (λ j _ ne.
    elim (cases_eq (j / row_width) i) [
      | inl q ↦
          let ne' : j % row_width ≢ k = λ r. ne (sym (div-add-mod j row_width) ∙ ap (λ m. row_width * m + j % row_width) q ∙ ap (λ m. row_width * i + m) r ∙ omega arith) in
          ap (λ x. slice_index (f x) (j % row_width)) (get_or-set_at xs i (j / row_width) e d q len)
          ∙ ap (λ ys. slice_index ys (j % row_width)) is
          ∙ get_or-set_other (f (get_or xs i d)) k (j % row_width) v 0 ne'
          ∙ ap (λ m. slice_index (f (get_or xs m d)) (j % row_width)) (sym q)
      | inr ne' ↦ ap (λ x. slice_index (f x) (j % row_width)) (get_or-set_other xs i (j / row_width) e d ne')
    ]))

pub length-flat_rows : {X : Type 0} (n row_width : ℕ) (f : X → List ℕ) (d : X) (xs : List X) → length (flat_rows n row_width f d xs) ≡ n * row_width
unfolding flat_rows
length-flat_rows n row_width f d xs = length-table_of (n * row_width) _

pub length-column : {X : Type 0} (n : ℕ) (f : X → ℕ) (d : X) (xs : List X) → length (column n f d xs) ≡ n
unfolding column
length-column n f d xs = length-table_of n _

pub column-of_equal_values : {X : Type 0} (n : ℕ) (f : X → ℕ) (d : X) (xs ys : List X) → ((i : ℕ) → i < n → f (get_or xs i d) ≡ f (get_or ys i d)) → column n f d xs ≡ column n f d ys
unfolding column
column-of_equal_values n f d xs ys h = table_of-equal_functions n _ _ h

-- if all numbers of all rows are 0, `flat_rows` is a list of zeros
pub zero-flat_rows : {X : Type 0} (n row_width : ℕ) (f : X → List ℕ) (d : X) (xs : List X) → ((i k : ℕ) → slice_index (f (get_or xs i d)) k ≡ 0) → flat_rows n row_width f d xs ≡ replicate (n * row_width) 0
unfolding flat_rows
zero-flat_rows n row_width f d xs h =
    sym (table_of-unique (n * row_width) _ (replicate (n * row_width) 0) 0 (length-replicate {A = ℕ} (n * row_width) 0) (λ k l. get_or-replicate (n * row_width) k 0 0 l ∙ sym (h (k / row_width) (k % row_width))))

pub zero-column : {X : Type 0} (n : ℕ) (f : X → ℕ) (d : X) (xs : List X) → ((i : ℕ) → f (get_or xs i d) ≡ 0) → column n f d xs ≡ replicate n 0
unfolding column
zero-column n f d xs h =
    sym (table_of-unique n _ (replicate n 0) 0 (length-replicate {A = ℕ} n 0) (λ k l. get_or-replicate n k 0 0 l ∙ sym (h k)))
