-- The size of a key matrix on a valid board, and the bits of a value.
use Rattle.std.proofs.Common.{◌≡◌, ◌<◌, ◌≤◌, ◌+◌, ◌^◌, ◌%◌, ℕ, Bool, true, not, Some, None, Option, ap, subst, arith, nat_lt, nat_le, length, ◌&&◌, lit<, false}
use Rattle.std.proofs.Math.Nat.{div-eq_of_lt, pow-le-pow_right}
use Rattle.std.proofs.lemmas.Bool.{and_parts, leb-true, ltb-true, not-false}
use Rattle.mcs_nibble.specs.Bits.{bit_of}
use Rattle.mcs_model.specs.declared.board.BoardParts.{BoardParts}
use Rattle.mcs_model.specs.declared.board.KeyMatrix.{KeyMatrix}
use Rattle.mcs_model.specs.Boards.{board_fault_of, is_matrix_size}
use Rattle.mcs_model.proofs.ValidBoardLemmas.{sound}

pub is_matrix_size-on_valid_board : (b : BoardParts) (m : KeyMatrix) → board_fault_of b ≡ None → b.keys ≡ Some m → is_matrix_size m ≡ true
is_matrix_size-on_valid_board b m v e =
    not-false (is_matrix_size m)
    (subst (λ (o : Option KeyMatrix). elim o as (λ _. Bool) [ Some m ↦ not (is_matrix_size m) | None ↦ false ] ≡ false) e (sound b v).values.matrix)

-- the chain bits that drive the rows of a key matrix have indexes below 256
pub key_rows-fit_in_chain_bits : (m : KeyMatrix) → is_matrix_size m ≡ true → m.first + m.rows < 256
key_rows-fit_in_chain_bits m is =
    let p4 = and_parts (nat_lt m.chain 4 && nat_lt m.first 80 && nat_lt 0 m.rows && nat_le m.rows 10) (nat_lt 0 (length m.columns.items)) is in
    let p3 = and_parts (nat_lt m.chain 4 && nat_lt m.first 80 && nat_lt 0 m.rows) (nat_le m.rows 10) p4.0 in
    let p2 = and_parts (nat_lt m.chain 4 && nat_lt m.first 80) (nat_lt 0 m.rows) p3.0 in
    let p1 = and_parts (nat_lt m.chain 4) (nat_lt m.first 80) p2.0 in
    let first = ltb-true m.first 80 p1.1 in
    let rows = leb-true m.rows 10 p3.1 in
    omega arith

-- the bits of a nibble above bit 3 are 0
pub high-bit-zero : (n k : ℕ) → n < 16 → 4 ≤ k → bit_of n k ≡ 0
high-bit-zero n k small high =
    let power : 2 ^ 4 ≤ 2 ^ k = pow-le-pow_right (lit< tt) high in
    let beyond : n < 2 ^ k = omega arith in
    ap (λ (q : ℕ). q % 2) (div-eq_of_lt beyond)
