use Rattle.std.proofs.Common.{arith, sym, ap, refl, ◌∙◌, ◌≡◌, ℕ, List, Some, None, slice_set}
use Rattle.std.proofs.lemmas.List.{set-get_or}
use Rattle.mcs_nibble.specs.declared.lines.LineMask.{LineMask}
use Rattle.mcs_nibble.specs.Ports.{latch_value}
use Rattle.mcs_rom4001.specs.Roms.{PortState}
use Rattle.mcs_model.specs.Bus.{BusState}
use Rattle.mcs_model.specs.Boards.{rom_masks}
use Rattle.mcs_model.specs.Levels.{with_rom_ports_at}
use Rattle.mcs_model.specs.ChipWrites.{with_rom_latch}
use Rattle.mcs_board.specs.RigFields.{rig_parts}
use Rattle.mcs_board.specs.RigState.{masks_of_rom, state_of_rig}
use Rattle.mcs_board.proofs.BoardMatchLemmas.{matches_board-after_set_rom}
use Rattle.mcs_board.proofs.RigLemmas.{rom-at_index, rom-absent_past_end, state-after_rom_latch_write}
use Rattle.mcs_board.proofs.rig.Rig.set_rom_latch.Goals as goal

with_rom_latch-of_present_rom : (s : BusState) (chip n : ℕ) (mask : List LineMask) → rom_masks s.board chip ≡ Some mask → with_rom_ports_at s chip (latch_value mask n) ≡ with_rom_latch s chip n
unfolding with_rom_latch
with_rom_latch-of_present_rom s chip n mask is = rw (is, with_rom_latch) refl

with_rom_latch-of_absent_rom : (s : BusState) (chip n : ℕ) → rom_masks s.board chip ≡ None → s ≡ with_rom_latch s chip n
unfolding with_rom_latch
with_rom_latch-of_absent_rom s chip n is = rw (is, with_rom_latch) refl

pub returns-in-Some : goal.returns-in-Some
returns-in-Some g c =
    let i = c.self.inside in
    let s = c.args.self.now in
    let here = rom-at_index i.roms.items c.args.chip c.from-at.result c.index_mut.result.now c.from-at.ensures (omega arith) c.index_mut.ensures.value in
    let mask = ap (λ (t : BusState). rom_masks t.board c.args.chip) (sym c.self.view_is) ∙ sym (c.self.invariant.masks c.args.chip) ∙ ap masks_of_rom (here ∙ c.in-Some.is) in
    state-after_rom_latch_write (rig_parts i) c.args.chip c.from-at.result (latch_value c.in-Some.rom.mask c.args.n) c.in-Some.rom c.write_port.new.self c.requires c.from-at.ensures (omega arith) (here ∙ c.in-Some.is) c.write_port.ensures
    ∙ ap (λ t. with_rom_ports_at t c.args.chip (latch_value c.in-Some.rom.mask c.args.n)) c.self.view_is
    ∙ with_rom_latch-of_present_rom s c.args.chip c.args.n c.in-Some.rom.mask mask

pub returns-in-None : goal.returns-in-None
returns-in-None g c =
    let i = c.self.inside in
    let here = rom-at_index i.roms.items c.args.chip c.from-at.result c.index_mut.result.now c.from-at.ensures (omega arith) c.index_mut.ensures.value in
    let mask = ap (λ (t : BusState). rom_masks t.board c.args.chip) (sym c.self.view_is) ∙ sym (c.self.invariant.masks c.args.chip) ∙ ap masks_of_rom (here ∙ c.in-None.is) in
    let e = c.index_mut.result.now in
    let same = ap (slice_set i.roms.items c.from-at.result) c.index_mut.ensures.value ∙ set-get_or i.roms.items c.from-at.result e in
    ap (λ roms. state_of_rig (record (rig_parts i) { roms = roms })) same
    ∙ c.self.view_is
    ∙ with_rom_latch-of_absent_rom c.args.self.now c.args.chip c.args.n mask

pub returns-else-at-len : goal.returns-else-at-len
returns-else-at-len g c =
    let i = c.self.inside in
    let here = rom-absent_past_end i.roms.items c.args.chip c.from-at.result c.from-at.ensures (omega arith) in
    let mask = ap (λ (t : BusState). rom_masks t.board c.args.chip) (sym c.self.view_is) ∙ sym (c.self.invariant.masks c.args.chip) ∙ ap masks_of_rom here in
    with_rom_latch-of_absent_rom c.args.self.now c.args.chip c.args.n mask

pub invariant_of-self : goal.invariant_of-self
invariant_of-self g c =
    let i = c.self.inside in
    let v = c.self.invariant in
    let at = c.from-at.result in
    let here = rom-at_index i.roms.items at at c.index_mut.result.now refl (omega arith) c.index_mut.ensures.value ∙ c.in-Some.is in
    matches_board-after_set_rom v at c.in-Some.rom c.write_port.new.self (omega arith) here (ap (λ (x : PortState). x.mask) c.write_port.ensures)
