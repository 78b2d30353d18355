use Rattle.std.proofs.Common.{arith, ◌<◌, ℕ, [], get_or, sym, ap, subst}
use Rattle.std.specs.Prelude.{All}
use Rattle.mcs_model.specs.Boards.{chain_count}
use Rattle.mcs_model.specs.Bus.{BusState}
use Rattle.mcs_model.specs.Validity.{IsValidBoard, IsValidBus}
use Rattle.mcs_board.specs.RigFields.{rig_parts}
use Rattle.mcs_board.proofs.ValidLemmas.{state_of_rig-valid}
use Rattle.mcs_board.proofs.rig.Rig.show_state_is_valid.Goals as goal

pub returns : goal.returns
returns g c =
    let i = c.self.inside in
    let board = ap (λ (s : BusState). s.board) c.self.view_is in
    let valid : IsValidBoard i.key_pad.board = subst IsValidBoard (sym board) (record { sized = c.parts-parts.ensures.sized; valid = c.parts-parts.ensures.valid }) in
    let bits = subst (λ (s : BusState). (k : ℕ) → k < chain_count s.board → All (λ bit. bit < 2) (get_or s.chains k [])) (sym c.self.view_is) c.show_chains_are_valid.ensures in
    subst IsValidBus c.self.view_is (state_of_rig-valid (rig_parts i) g.row.ROMS g.row.BANKS g.row.CHAINS valid c.self.invariant (record { program = c.show_bytes_are_valid.ensures; roms = c.show_roms_are_valid.ensures; banks = c.show_banks_are_valid.ensures }) bits c.show_state_is_valid.ensures (omega (arith, c.get-level.ensures.value, c.get-level.ensures.in_range)))
