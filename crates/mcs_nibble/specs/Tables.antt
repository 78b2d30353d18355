-- Lists whose elements are a function of the index, and flat lists of the contents of several
-- chips.
use Rattle.std.specs.Prelude.{ℕ, ◌*◌, ◌/◌, ◌%◌, List, map, slice_index, slice_index_or}
use Rattle.std.specs.List.{range_with_len}

-- the list `f 0`, `f 1`, .. `f (n - 1)`
unfoldable pub table_of : {A : Type 0} → ℕ → (ℕ → A) → List A
table_of n f = map f (range_with_len 0 n)

-- A list of `n` numbers. Number `i` is the value of `f` for element `i` of `xs`, or for the default
-- `d` if `xs` has no element `i`.
unfoldable pub column : {X : Type 0} → ℕ → (X → ℕ) → X → List X → List ℕ
column n f d xs = table_of n (λ i. f (slice_index_or xs i d))

-- The concatenation of `n` rows of `row_width` numbers. Row `i` is the list that `f` gives for
-- element `i` of `xs`, or for the default `d` if `xs` has no element `i`. Each row is cut, or
-- padded with 0, to `row_width` numbers.
unfoldable pub flat_rows : {X : Type 0} → ℕ → ℕ → (X → List ℕ) → X → List X → List ℕ
flat_rows n row_width f d xs =
    table_of (n * row_width) (λ i. slice_index (f (slice_index_or xs (i / row_width) d)) (i % row_width))
