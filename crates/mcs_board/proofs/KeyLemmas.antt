-- Relations between the keys of a rig and the flat state of the rig.
use Rattle.std.proofs.Common.{◌≡◌, ℕ, ◌+◌, ◌<◌, ◌≤◌, zero, suc, Bool, true, false, List, [], Option, Some, None, length, get_or, refl, sym, ap, ◌∙◌, arith, eqb}
use Rattle.mcs_nibble.specs.declared.lines.LineMask.{LineMask}
use Rattle.mcs_nibble.specs.declared.lines.LineMask.TheVariants.{Input, Zero, One}
use Rattle.mcs_nibble.specs.Bits.{bit_of, nibble_of}
use Rattle.mcs_nibble.specs.Ports.{read_lines, mask_at}
use Rattle.mcs_keypad.specs.Keys.{matrix_of_board, empty_matrix}
use Rattle.mcs_model.specs.declared.board.BoardParts.{BoardParts}
use Rattle.mcs_model.specs.declared.board.KeyMatrix.{KeyMatrix}
use Rattle.mcs_model.specs.Boards.{board_fault_of, rom_masks, chain_count, chain_bits}
use Rattle.mcs_model.specs.Bus.{BusState}
use Rattle.mcs_model.specs.Levels.{is_pulled, is_pulled_by, bit_when, port_at}
use Rattle.mcs_board.specs.RigState.{RigParts, state_of_rig}
use Rattle.mcs_board.proofs.BoardLemmas.{key_chain-exists, key_rows-fit_in_chain}
use Rattle.mcs_board.proofs.ClockLemmas.{wired_chains-at_index}

pub matrix_of_board-with_keys : (b : BoardParts) (m : KeyMatrix) → b.keys ≡ Some m → matrix_of_board b ≡ m
matrix_of_board-with_keys b m e = ap (λ (o : Option KeyMatrix). elim o [ Some k ↦ k | None ↦ empty_matrix ]) e

-- If a rig's chains have the lengths that the board requires, the chain that drives the key rows has
-- a bit for each row.
pub key_rows-fit_in_chain_bits : (b : BoardParts) (chains : List (List ℕ)) (m : KeyMatrix) → board_fault_of b ≡ None → b.keys ≡ Some m → ((i : ℕ) → i < chain_count b → length (get_or chains i []) ≡ chain_bits b i) → m.first + m.rows ≤ length (get_or chains m.chain [])
key_rows-fit_in_chain_bits b chains m v is bits =
    let fit = key_rows-fit_in_chain b m v is in
    let len = bits m.chain (key_chain-exists b m v is) in
    omega arith

is_pulled-with_keys : (s : BusState) (m : KeyMatrix) (chip k : ℕ) → s.board.keys ≡ Some m → is_pulled_by (get_or s.chains m.chain []) s.keys m chip k ≡ is_pulled s chip k
unfolding is_pulled
is_pulled-with_keys s m chip k is = rw (is, is_pulled) refl

pub is_pulled-without_keys : (s : BusState) (chip k : ℕ) → s.board.keys ≡ None → false ≡ is_pulled s chip k
unfolding is_pulled
is_pulled-without_keys s chip k is = rw (is, is_pulled) refl

-- A rig's keys pull a line to 1 exactly when the line is pulled in the rig's flat state.
pub is_pulled-in_rig : (p : RigParts) (m : KeyMatrix) (chip k : ℕ) → board_fault_of p.board ≡ None → p.board.keys ≡ Some m → is_pulled_by (get_or p.chains m.chain []) p.keys m chip k ≡ is_pulled (state_of_rig p) chip k
is_pulled-in_rig p m chip k v is =
    ap (λ row. is_pulled_by row p.keys m chip k) (sym (wired_chains-at_index p.board p.chains m.chain (key_chain-exists p.board m v is)))
    ∙ is_pulled-with_keys (state_of_rig p) m chip k is

pub nibble_of-equal : (f g : ℕ → ℕ) → ((k : ℕ) → f k ≡ g k) → nibble_of f ≡ nibble_of g
nibble_of-equal f g h = rw (h 0, h 1, h 2, h 3) refl

pub bit_when-below_2 : (b : Bool) → bit_when b < 2
bit_when-below_2 true = omega arith
bit_when-below_2 false = omega arith

pub bit_when-equals_1 : (b : Bool) → eqb (bit_when b) 1 ≡ b
bit_when-equals_1 true = refl
bit_when-equals_1 false = refl

pub bit_of-packed_nibble : (f : ℕ → ℕ) (k : ℕ) → k < 4 → ((j : ℕ) → f j < 2) → bit_of (nibble_of f) k ≡ f k
bit_of-packed_nibble f zero l h = let a = h 0 in omega arith
bit_of-packed_nibble f (suc zero) l h = let a = h 0 in let b = h 1 in omega arith
bit_of-packed_nibble f (suc (suc zero)) l h = let a = h 0 in let b = h 1 in let d = h 2 in omega arith
bit_of-packed_nibble f (suc (suc (suc zero))) l h = let a = h 0 in let b = h 1 in let d = h 2 in let e = h 3 in omega arith
bit_of-packed_nibble f (suc (suc (suc (suc k)))) l h = absurd (omega arith)

line_value-equal : (l : LineMask) (a b : ℕ) → a ≡ b → elim l as (λ _. ℕ) [ Input ↦ a | Zero ↦ 0 | One ↦ 1 ] ≡ elim l as (λ _. ℕ) [ Input ↦ b | Zero ↦ 0 | One ↦ 1 ]
line_value-equal Input a b e = e
line_value-equal Zero a b e = refl
line_value-equal One a b e = refl

-- If the levels of a port's lines are first packed into a nibble, the value read from the port is
-- the same.
pub read_lines-of_packed_levels : (f : ℕ → ℕ) (mask : List LineMask) → ((j : ℕ) → f j < 2) → read_lines (bit_of (nibble_of f)) mask ≡ read_lines f mask
unfolding read_lines
read_lines-of_packed_levels f mask h =
    rw (
      line_value-equal (mask_at mask 0) (bit_of (nibble_of f) 0) (f 0) (bit_of-packed_nibble f 0 (omega arith) h),
      line_value-equal (mask_at mask 1) (bit_of (nibble_of f) 1) (f 1) (bit_of-packed_nibble f 1 (omega arith) h),
      line_value-equal (mask_at mask 2) (bit_of (nibble_of f) 2) (f 2) (bit_of-packed_nibble f 2 (omega arith) h),
      line_value-equal (mask_at mask 3) (bit_of (nibble_of f) 3) (f 3) (bit_of-packed_nibble f 3 (omega arith) h),
    ) refl

pub port_at-of_present_rom : (s : BusState) (chip : ℕ) (mask : List LineMask) → rom_masks s.board chip ≡ Some mask → read_lines (λ k. bit_when (is_pulled s chip k)) mask ≡ port_at s chip
unfolding port_at
port_at-of_present_rom s chip mask is = rw (is, port_at) refl

pub port_at-of_absent_rom : (s : BusState) (chip : ℕ) → rom_masks s.board chip ≡ None → 0 ≡ port_at s chip
unfolding port_at
port_at-of_absent_rom s chip is = rw (is, port_at) refl
