use Rattle.std.proofs.Common.{◌≡◌, ◌∙◌, List, ℕ, true, ap, subst, slice_index}
use Rattle.mcs_model.specs.declared.board.BoardParts.{BoardParts}
use Rattle.mcs_model.specs.Bus.{BusState}
use Rattle.mcs_bench.specs.declared.chip_list.ChipList.TheVariants.{RamNibbles, StatusCharacters, RamPorts}
use Rattle.mcs_bench.specs.ChipLists.{is_chip_absent}
use Rattle.mcs_bench.specs.States.{state_of}
use Rattle.mcs_bench.proofs.ChipListLemmas.{zero-where-absent-if-valid}
use Rattle.mcs_bench.proofs.restoring.restore_rig.Goals as goal

pub fill-requires-2-clause-absent : goal.fill-requires-2-clause-absent
fill-requires-2-clause-absent c = λ i l e.
    let board = ap (λ (s : BusState). s.board) c.fill.ensures ∙ ap (λ (s : BusState). s.board) c.wire.ensures in
    ap (λ (xs : List ℕ). slice_index xs i) c.bytes-2.ensures ∙ zero-where-absent-if-valid (state_of c.args.flat.now).bus c.requires.absent RamNibbles i l (subst (λ (b : BoardParts). is_chip_absent b RamNibbles i ≡ true) board e)

pub fill-requires-3-clause-absent : goal.fill-requires-3-clause-absent
fill-requires-3-clause-absent c = λ i l e.
    let board = ap (λ (s : BusState). s.board) c.fill-2.ensures ∙ ap (λ (s : BusState). s.board) c.fill.ensures ∙ ap (λ (s : BusState). s.board) c.wire.ensures in
    ap (λ (xs : List ℕ). slice_index xs i) c.bytes-3.ensures ∙ zero-where-absent-if-valid (state_of c.args.flat.now).bus c.requires.absent StatusCharacters i l (subst (λ (b : BoardParts). is_chip_absent b StatusCharacters i ≡ true) board e)

pub fill-requires-4-clause-absent : goal.fill-requires-4-clause-absent
fill-requires-4-clause-absent c = λ i l e.
    let board = ap (λ (s : BusState). s.board) c.fill-3.ensures ∙ ap (λ (s : BusState). s.board) c.fill-2.ensures ∙ ap (λ (s : BusState). s.board) c.fill.ensures ∙ ap (λ (s : BusState). s.board) c.wire.ensures in
    ap (λ (xs : List ℕ). slice_index xs i) c.bytes-4.ensures ∙ zero-where-absent-if-valid (state_of c.args.flat.now).bus c.requires.absent RamPorts i l (subst (λ (b : BoardParts). is_chip_absent b RamPorts i ≡ true) board e)
