use Rattle.std.proofs.Common.{◌<◌, ◌∙◌, ℕ, List, [], length, get_or, arith, sym, ap, subst}
use Rattle.std.specs.Prelude.{All}
use Rattle.mcs_model.specs.Bus.{BusState}
use Rattle.mcs_model.specs.Boards.{chain_count}
use Rattle.mcs_board.proofs.ClockLemmas.{wired_chains-at_index}
use Rattle.mcs_board.proofs.rig.Rig.show_chains_are_valid.Goals as goal

pub returns : goal.returns
returns g c = λ k h.
    let i = c.self.inside in
    let e = ap (λ (s : BusState). chain_count s.board) c.self.view_is in
    let within : k < chain_count i.key_pad.board = omega arith in
    let there : k < length c.as_slice-chains.result.now = let v = c.self.invariant in omega (arith, v.chains_len, v.chains_fit, ap length c.as_slice-chains.ensures.value) in
    let row = ap (λ (xs : List (List ℕ)). get_or xs k []) c.as_slice-chains.ensures.value ∙ sym (wired_chains-at_index i.key_pad.board i.chains.items k within) ∙ ap (λ (s : BusState). get_or s.chains k []) c.self.view_is in
    subst (All (λ bit. bit < 2)) row (c.loop-i.invariant k (omega arith))
