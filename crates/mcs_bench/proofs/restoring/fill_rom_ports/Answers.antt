use Rattle.std.proofs.Common.{◌≡◌, ◌∙◌, ◌<◌, List, ℕ, sym, ap, refl, arith, get_or}
use Rattle.std.proofs.lemmas.List.Elements.{All-get_or}
use Rattle.mcs_bench.proofs.Filling.{filled-at-start, filled-list-is-goal}
use Rattle.mcs_bench.proofs.ChipListLemmas.{ports-filled-with-next}
use Rattle.mcs_bench.proofs.restoring.fill_rom_ports.Goals as goal

pub loop-chip-init : goal.loop-chip-init
loop-chip-init c = record {
  others = refl;
  filled = filled-at-start c.args.rig.now.rom_ports c.args.ports.now (c.show_state_is_valid.ensures.in_range.rom_ports.has_count ∙ sym c.requires.fit.has_count);
}

pub loop-chip-preserved : goal.loop-chip-preserved
loop-chip-preserved c =
    let i = c.loop-chip.chip in
    let there : i < 16 = omega arith in
    let small = All-get_or (λ n. n < 16) c.args.ports.now i 0 (let r = c.requires.fit.has_count in omega arith) c.requires.fit.below in
    let at = ap (λ (j : ℕ). get_or c.args.ports.now j 0) c.from.ensures in
    let same : c.low_of.result ≡ get_or c.args.ports.now i 0 = omega arith in
    ports-filled-with-next c.args.rig.now c.loop-chip.rig c.set_rom_latch.new.self c.args.ports.now i c.low_of.result (let r = c.requires.fit.has_count in omega arith) same (c.requires.fits_latch i) (c.show_state_is_valid.ensures.absent.rom_ports i) c.loop-chip.invariant c.set_rom_latch.ensures

pub returns : goal.returns
returns c =
    let s = c.args.rig.now in
    c.loop-chip.invariant.others ∙ ap (λ (xs : List ℕ). record s { rom_ports = xs }) (filled-list-is-goal s.rom_ports c.args.ports.now c.loop-chip.rig.rom_ports c.loop-chip.chip (let r = c.requires.fit.has_count in omega arith) c.loop-chip.invariant.filled)
