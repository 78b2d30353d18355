-- Bounds on the lists of a valid board. The bounds are stated by recursion on the lists: the proofs
-- about readings need this form.
use Rattle.std.proofs.Common.{◌≡◌, ℕ, zero, suc, ◌*◌, ◌≤◌, false, List, [], ◌∷◌, length, get_or, Option, Some, None, refl, subst, arith}
use Rattle.std.specs.Prelude.{◌&&◌, not, nat_lt, nat_le}
use Rattle.std.specs.List.{list_any, AllByRecursion}
use Rattle.std.proofs.lemmas.Nat.{mul-le}
use Rattle.std.proofs.lemmas.Bool.{leb-true, or_parts, and_parts, not-false}
use Rattle.mcs_nibble.specs.declared.lines.LineMask.{LineMask}
use Rattle.mcs_model.specs.declared.board.BoardParts.{BoardParts}
use Rattle.mcs_model.specs.declared.board.ChainPart.{ChainPart}
use Rattle.mcs_model.specs.declared.board.KeyMatrix.{KeyMatrix}
use Rattle.mcs_model.specs.Boards.{board_fault_of, no_chain, chain_bits, is_chain_size, is_matrix_size, key_count}
use Rattle.mcs_model.specs.declared.limits.TheConstants.{CHAINS, CHAIN_CHIPS, CHAIN_BITS, KEY_ROWS, KEYS}
use Rattle.mcs_model.specs.Validity.{IsValidBoard}
use Rattle.mcs_model.proofs.ValidBoardLemmas.{sound}

abbrev pub HasFourLines : Option (List LineMask) → Type 0
HasFourLines (Some mask) = length mask ≡ 4
HasFourLines None = Unit {0}

abbrev pub HasAtMostEightColumns : Option KeyMatrix → Type 0
HasAtMostEightColumns (Some m) = length m.columns.items ≤ 8
HasAtMostEightColumns None = Unit {0}

-- holds if each list in a board's parts has a valid length
pub record HasLengths (b : BoardParts) : Type 0 where
  pub roms : length b.roms ≡ 16
  pub masks : AllByRecursion HasFourLines b.roms
  pub banks : length b.banks ≡ 8
  pub chains : length b.chains.items ≤ CHAINS
  pub keys : HasAtMostEightColumns b.keys
  pub lamps : length b.lamps.items ≤ 64

-- ---- bounds on a board without errors

chips_within_limit_by_recursion : (chains : List ChainPart) → list_any (λ c. not (is_chain_size c)) chains ≡ false → AllByRecursion (λ c. c.chips ≤ CHAIN_CHIPS) chains
chips_within_limit_by_recursion [] h = tt
chips_within_limit_by_recursion (c ∷ chains) h =
    let first = or_parts (not (is_chain_size c)) (list_any (λ x. not (is_chain_size x)) chains) h in
    let sized = and_parts (nat_lt 0 c.chips) (nat_le c.chips CHAIN_CHIPS) (not-false (is_chain_size c) first.0) in
    (leb-true _ _ sized.1, chips_within_limit_by_recursion chains first.1)

matrix_keys_within_limit : (k : Option KeyMatrix) → HasAtMostEightColumns k → elim k [ Some m ↦ not (is_matrix_size m) | None ↦ false ] ≡ false → elim k [ Some m ↦ m.rows * length m.columns.items | None ↦ 0 ] ≤ KEYS
matrix_keys_within_limit None h e = omega arith
matrix_keys_within_limit (Some m) h e =
    let all = not-false (is_matrix_size m) e in
    let rows = (and_parts (nat_lt m.chain CHAINS && nat_lt m.first CHAIN_BITS && nat_lt 0 m.rows) (nat_le m.rows KEY_ROWS) (and_parts (nat_lt m.chain CHAINS && nat_lt m.first CHAIN_BITS && nat_lt 0 m.rows && nat_le m.rows KEY_ROWS) (nat_lt 0 (length m.columns.items)) all).0).1 in
    mul-le m.rows (length m.columns.items) 10 8 (leb-true _ _ rows) h

pub board_chips_within_limit : (b : BoardParts) → board_fault_of b ≡ None → AllByRecursion (λ c. c.chips ≤ CHAIN_CHIPS) b.chains.items
board_chips_within_limit b h = chips_within_limit_by_recursion b.chains.items (sound b h).values.chains

chain_chips_within_limit : (chains : List ChainPart) (i : ℕ) → AllByRecursion (λ c. c.chips ≤ CHAIN_CHIPS) chains → (get_or chains i no_chain).chips ≤ CHAIN_CHIPS
chain_chips_within_limit [] i h = omega arith
chain_chips_within_limit (c ∷ chains) zero h = h.0
chain_chips_within_limit (c ∷ chains) (suc i) h = chain_chips_within_limit chains i h.1

-- no chain has more than `CHAIN_BITS` bits
pub chain_bits_within_limit : (b : BoardParts) (i : ℕ) → board_fault_of b ≡ None → chain_bits b i ≤ CHAIN_BITS
chain_bits_within_limit b i h = omega (arith, chain_chips_within_limit b.chains.items i (board_chips_within_limit b h))

pub board_keys_within_limit : (b : BoardParts) → HasAtMostEightColumns b.keys → board_fault_of b ≡ None → key_count b ≤ KEYS
board_keys_within_limit b k h = matrix_keys_within_limit b.keys k (sound b h).values.matrix

-- ---- the same lengths, stated by index and by recursion

all_masks_have_four_lines : (roms : List (Option (List LineMask))) → ((chip : ℕ) (mask : List LineMask) → get_or roms chip None ≡ Some mask → length mask ≡ 4) → AllByRecursion HasFourLines roms
all_masks_have_four_lines [] h = tt
all_masks_have_four_lines (None ∷ roms) h = (tt, all_masks_have_four_lines roms (λ i m e. h (suc i) m e))
all_masks_have_four_lines (Some mask ∷ roms) h = (h 0 mask refl, all_masks_have_four_lines roms (λ i m e. h (suc i) m e))

mask_has_four_lines : (roms : List (Option (List LineMask))) → AllByRecursion HasFourLines roms → (chip : ℕ) (mask : List LineMask) → get_or roms chip None ≡ Some mask → length mask ≡ 4
mask_has_four_lines [] h chip mask e = absurd cc
mask_has_four_lines (r ∷ roms) h zero mask e = let is : r ≡ Some mask = e in subst HasFourLines is h.0
mask_has_four_lines (r ∷ roms) h (suc i) mask e = mask_has_four_lines roms h.1 i mask e

has_at_most_eight_columns : (k : Option KeyMatrix) → ((m : KeyMatrix) → k ≡ Some m → length m.columns.items ≤ 8) → HasAtMostEightColumns k
has_at_most_eight_columns None h = tt
has_at_most_eight_columns (Some m) h = h m refl

pub valid_board_has_lengths : (b : BoardParts) → IsValidBoard b → HasLengths b
valid_board_has_lengths b h = record {
  roms = h.sized.roms;
  masks = all_masks_have_four_lines b.roms h.sized.masks;
  banks = h.sized.banks;
  chains = h.sized.chains;
  keys = has_at_most_eight_columns b.keys h.sized.columns;
  lamps = h.sized.lamps;
}

pub valid_board_of_lengths : (b : BoardParts) → HasLengths b → board_fault_of b ≡ None → IsValidBoard b
valid_board_of_lengths b h sound = record {
  sized = record {
    roms = h.roms;
    masks = mask_has_four_lines b.roms h.masks;
    banks = h.banks;
    chains = h.chains;
    columns = λ m e. subst HasAtMostEightColumns e h.keys;
    lamps = h.lamps;
  };
  valid = sound;
}
