use Rattle.std.proofs.Common.{◌≡◌, ◌+◌, ◌<◌, ◌≤◌, ◌∙◌, ℕ, List, [], Some, None, sym, ap, subst, arith, length, get_or}
use Rattle.std.proofs.lemmas.List.{get_or_default}
use Rattle.mcs_model.specs.Bus.{BusState}
use Rattle.mcs_model.specs.Boards.{board_fault_of}
use Rattle.mcs_model.specs.declared.board.BoardParts.{BoardParts}
use Rattle.mcs_model.specs.declared.board.KeyMatrix.{KeyMatrix}
use Rattle.mcs_model.specs.Levels.{is_pulled, is_pulled_by, bit_when}
use Rattle.mcs_board.specs.RigFields.{rig_parts}
use Rattle.mcs_board.proofs.BoardLemmas.{key_chain-exists}
use Rattle.mcs_board.proofs.KeyLemmas.{matrix_of_board-with_keys, key_rows-fit_in_chain_bits, is_pulled-in_rig, is_pulled-without_keys, nibble_of-equal}
use Rattle.mcs_board.proofs.LocationLemmas.{element_size-bounded}
use Rattle.mcs_board.proofs.rig.Rig.pulled_lines.Goals as goal

pub lines_pulled-requires : goal.lines_pulled-requires
lines_pulled-requires g c =
    let i = c.self.inside in
    let v = c.self.invariant in
    let m = c.in-Some.matrix in
    let xs = i.chains.items in
    let n = c.from.result in
    let board = ap (λ (t : BusState). t.board) c.self.view_is in
    let valid = subst (λ (b : BoardParts). board_fault_of b ≡ None) (sym board) c.parts.ensures.valid in
    let keys : i.key_pad.board.keys ≡ Some m = ap (λ (b : BoardParts). b.keys) (board ∙ sym c.parts.ensures.same) ∙ c.in-Some.is in
    let l : n < length xs = omega (arith, key_chain-exists i.key_pad.board m valid keys, v.chains_fit, v.chains_len, c.from.ensures) in
    let row = c.index-chains-from.is ∙ ap (λ ys. get_or ys n c.index-chains-from.result) c.as_slice-chains.ensures.value ∙ get_or_default xs n c.index-chains-from.result [] l ∙ ap (λ k. get_or xs k []) c.from.ensures in
    (element_size-bounded n (length c.as_slice-chains.result.now) _ (omega (arith, l, ap length c.as_slice-chains.ensures.value)) c.as_slice-chains.type_inv.1, subst (λ (x : KeyMatrix). x.first + x.rows ≤ length c.index-chains-from.result) (sym (matrix_of_board-with_keys i.key_pad.board m keys)) (subst (λ (ys : List ℕ). m.first + m.rows ≤ length ys) (sym row) (key_rows-fit_in_chain_bits i.key_pad.board xs m valid keys v.bits)))

pub returns-in-Some : goal.returns-in-Some
returns-in-Some g c =
    let i = c.self.inside in
    let v = c.self.invariant in
    let m = c.in-Some.matrix in
    let xs = i.chains.items in
    let n = c.from.result in
    let board = ap (λ (t : BusState). t.board) c.self.view_is in
    let valid = subst (λ (b : BoardParts). board_fault_of b ≡ None) (sym board) c.parts.ensures.valid in
    let keys : i.key_pad.board.keys ≡ Some m = ap (λ (b : BoardParts). b.keys) (board ∙ sym c.parts.ensures.same) ∙ c.in-Some.is in
    let l : n < length xs = omega (arith, key_chain-exists i.key_pad.board m valid keys, v.chains_fit, v.chains_len, c.from.ensures) in
    let row = c.index-chains-from.is ∙ ap (λ ys. get_or ys n c.index-chains-from.result) c.as_slice-chains.ensures.value ∙ get_or_default xs n c.index-chains-from.result [] l ∙ ap (λ k. get_or xs k []) c.from.ensures in
    c.lines_pulled.ensures
    ∙ nibble_of-equal _ (λ k. bit_when (is_pulled c.args.self.now c.args.chip k)) (λ k.
    ap (λ (x : KeyMatrix). bit_when (is_pulled_by c.index-chains-from.result i.key_pad.down x c.args.chip k)) (matrix_of_board-with_keys i.key_pad.board m keys)
    ∙ ap (λ (ys : List ℕ). bit_when (is_pulled_by ys i.key_pad.down m c.args.chip k)) row
    ∙ ap bit_when (is_pulled-in_rig (rig_parts i) m c.args.chip k valid keys)
    ∙ ap (λ (s : BusState). bit_when (is_pulled s c.args.chip k)) c.self.view_is)

pub returns-in-None : goal.returns-in-None
returns-in-None g c =
    let s = c.args.self.now in
    nibble_of-equal (λ _. 0) (λ k. bit_when (is_pulled s c.args.chip k)) (λ k. ap bit_when (is_pulled-without_keys s c.args.chip k (ap (λ (b : BoardParts). b.keys) (sym c.parts.ensures.same) ∙ c.in-None.is)))
