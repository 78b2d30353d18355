-- Program images: bytes with their addresses.
use Rattle.std.specs.Prelude.{ℕ, ◌+◌, ◌<◌, ◌==◌, Bool, ◌&&◌, List, [], ◌∷◌, find, nat_lt, nat_le}
use Rattle.std.specs.List.{list_any, filter_map, range_with_len, All, AllPairs}

-- each byte with its address; the addresses are consecutive and begin at `at`
abbrev pub from_address : ℕ → List ℕ → List (ℕ × ℕ)
from_address at [] = []
from_address at (b ∷ bytes) = (at, b) ∷ from_address (at + 1) bytes

-- true if the image has a byte at one of the `count` consecutive addresses that begin at `at`
abbrev pub overlaps : List (ℕ × ℕ) → ℕ → ℕ → Bool
overlaps pairs at count = list_any (λ p. nat_le at p.0 && nat_lt p.0 (at + count)) pairs

-- holds if the addresses are in strictly ascending order; no address then occurs twice
abbrev pub HasAscendingAddresses : List (ℕ × ℕ) → Type 0
HasAscendingAddresses image = AllPairs (λ p q. p.0 < q.0) image

-- holds if the list is an image: its addresses are below 4096 and in strictly ascending order, and
-- its values are below 256
pub record IsImage (image : List (ℕ × ℕ)) : Type 0 where
  pub rising : HasAscendingAddresses image
  pub in_range : All (λ p. (p.0 < 4096) × (p.1 < 256)) image

-- the pairs in ascending order of address, for addresses below 4096; if several pairs have the same
-- address, only the first of them is included
unfoldable pub by_address : List (ℕ × ℕ) → List (ℕ × ℕ)
by_address pairs = filter_map (λ at. find (λ p. p.0 == at) pairs) (range_with_len 0 4096)
