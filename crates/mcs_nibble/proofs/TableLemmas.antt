-- Reads and writes of a list whose elements are a function of the index (`table_of`).
use Rattle.std.proofs.Common.{◌≡◌, ◌≢◌, ℕ, ◌<◌, inl, inr, List, length, get_or, slice_set, sym, ap, ◌∙◌, arith, get_or-set_other}
use Rattle.std.proofs.lemmas.List.FromFn.{get_or-map-range_with_len, length-map-range_with_len, fill_by_all}
use Rattle.std.proofs.lemmas.Grind.{get_or-set_at}
use Rattle.std.proofs.lemmas.Bool.{cases_eq}
use Rattle.std.proofs.lemmas.List.{length-set}
use Rattle.mcs_nibble.specs.Tables.{table_of}

pub length-table_of : {A : Type 0} (n : ℕ) (f : ℕ → A) → length (table_of n f) ≡ n
unfolding table_of
length-table_of n f = length-map-range_with_len f 0 n

pub get_or-table_of : {A : Type 0} (n : ℕ) (f : ℕ → A) (k : ℕ) (d : A) → k < n → get_or (table_of n f) k d ≡ f k
unfolding table_of
get_or-table_of n f k d h = get_or-map-range_with_len f 0 n k k d h (omega arith)

-- a list of `n` elements that agrees with `f` at each index is `table_of n f`
pub table_of-unique : {A : Type 0} (n : ℕ) (f : ℕ → A) (xs : List A) (d : A) → length xs ≡ n → ((k : ℕ) → k < n → get_or xs k d ≡ f k) → xs ≡ table_of n f
unfolding table_of
table_of-unique n f xs d l h = fill_by_all f xs n d l h

pub table_of-equal_functions : {A : Type 0} (n : ℕ) (f g : ℕ → A) → ((k : ℕ) → k < n → f k ≡ g k) → table_of n f ≡ table_of n g
table_of-equal_functions n f g h = table_of-unique n g (table_of n f) (f 0) (length-table_of n f) (λ k l. get_or-table_of n f k (f 0) l ∙ h k l)

-- if `g i` is `v`, and `g` agrees with `f` at all other indices, then setting element `i` of
-- `table_of n f` to `v` gives `table_of n g`
pub set-table_of : {A : Type 0} (n : ℕ) (f g : ℕ → A) (i : ℕ) (v : A) → i < n → g i ≡ v → ((k : ℕ) → k < n → k ≢ i → g k ≡ f k) → slice_set (table_of n f) i v ≡ table_of n g
set-table_of n f g i v h at others =
    table_of-unique n g (slice_set (table_of n f) i v) v (length-set (table_of n f) i v ∙ length-table_of n f)
    (λ k l.
    elim (cases_eq k i) [
      | inl e ↦ get_or-set_at (table_of n f) i k v v e (let len = length-table_of n f in omega arith) ∙ sym at ∙ ap g (sym e)
      | inr ne ↦ get_or-set_other (table_of n f) i k v v ne ∙ get_or-table_of n f k v l ∙ sym (others k l ne)
    ])
