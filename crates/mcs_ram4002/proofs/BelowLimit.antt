-- Lists in which each number is below a limit `m`.
use Rattle.std.proofs.Common.{ℕ, ◌*◌, ◌/◌, ◌%◌, ◌<◌, inl, inr, List, length, get_or, slice_index, sym, subst, arith}
use Rattle.std.specs.Prelude.{All}
use Rattle.std.proofs.lemmas.Bool.{cases_lt}
use Rattle.std.proofs.lemmas.List.{get_or_past}
use Rattle.std.proofs.lemmas.List.Elements.{All-get_or, All-from_get_or}
use Rattle.mcs_nibble.specs.Tables.{table_of, column, flat_rows}
use Rattle.mcs_nibble.proofs.TableLemmas.{get_or-table_of, length-table_of}

-- If all numbers of a list are below `m`, a read at any index gives a number below `m`. Past the
-- end, a read gives 0.
pub element-below_limit : (m : ℕ) (xs : List ℕ) (k : ℕ) → 0 < m → All (λ n. n < m) xs → slice_index xs k < m
element-below_limit m xs k some below =
    elim (cases_lt k (length xs)) [
      | inl l ↦ All-get_or (λ n. n < m) xs k 0 l below
      | inr beyond ↦ subst (λ n. n < m) (sym (get_or_past xs k 0 beyond)) some
    ]

table_of-below_limit : (n m : ℕ) (f : ℕ → ℕ) → ((i : ℕ) → f i < m) → All (λ v. v < m) (table_of n f)
table_of-below_limit n m f h =
    All-from_get_or (λ v. v < m) (table_of n f) 0 (λ i l. subst (λ v. v < m) (sym (get_or-table_of n f i 0 (let e = length-table_of n f in omega arith))) (h i))

pub flat_rows-below_limit : {X : Type 0} (n width m : ℕ) (f : X → List ℕ) (d : X) (xs : List X) → ((i k : ℕ) → slice_index (f (get_or xs i d)) k < m) → All (λ v. v < m) (flat_rows n width f d xs)
unfolding flat_rows
flat_rows-below_limit n width m f d xs h = table_of-below_limit (n * width) m (λ j. slice_index (f (get_or xs (j / width) d)) (j % width)) (λ j. h (j / width) (j % width))

pub column-below_limit : {X : Type 0} (n m : ℕ) (f : X → ℕ) (d : X) (xs : List X) → ((i : ℕ) → f (get_or xs i d) < m) → All (λ v. v < m) (column n f d xs)
unfolding column
column-below_limit n m f d xs h = table_of-below_limit n m (λ j. f (get_or xs j d)) h
