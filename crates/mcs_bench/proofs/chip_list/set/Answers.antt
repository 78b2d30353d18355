use Rattle.std.proofs.Common.{◌≡◌, ◌∙◌, ◌/◌, ◌%◌, ◌<◌, sym, ap, subst, refl, arith}
use Rattle.mcs_bench.specs.declared.chip_list.ChipList.{ChipList}
use Rattle.mcs_bench.specs.ChipLists.{chip_list_length, chip_value_limit, with_chip_value}
use Rattle.mcs_bench.proofs.ChipListLemmas.{with_rom_byte-is-with_chip_value, with_ram-is-with_chip_value, with_status-is-with_chip_value, with_ram_latch-is-with_chip_value, with_ram_src-is-with_chip_value}
use Rattle.mcs_bench.proofs.chip_list.set.Goals as goal

pub returns-in-RomBytes : goal.returns-in-RomBytes
returns-in-RomBytes c =
    let s = c.args.rig.now in
    let place = subst (λ (h : ChipList). c.args.i < chip_list_length h) c.in-RomBytes.is c.requires.index in
    let at : c.plus.result ≡ c.args.i = omega arith in
    c.set_rom_byte.ensures ∙ with_rom_byte-is-with_chip_value s c.args.i c.plus.result c.args.n at ∙ ap (λ (h : ChipList). with_chip_value s h c.args.i c.args.n) (sym c.in-RomBytes.is)

pub returns-in-RamNibbles : goal.returns-in-RamNibbles
returns-in-RamNibbles c =
    let s = c.args.rig.now in
    let fits = subst (λ (h : ChipList). c.args.n < chip_value_limit h) c.in-RamNibbles.is c.requires.fits in
    let small : c.low_of.result ≡ c.args.n = omega arith in
    c.set_ram.ensures ∙ with_ram-is-with_chip_value s c.args.i _ _ c.low_of.result c.args.n refl refl small ∙ ap (λ (h : ChipList). with_chip_value s h c.args.i c.args.n) (sym c.in-RamNibbles.is)

pub returns-in-StatusCharacters : goal.returns-in-StatusCharacters
returns-in-StatusCharacters c =
    let s = c.args.rig.now in
    let fits = subst (λ (h : ChipList). c.args.n < chip_value_limit h) c.in-StatusCharacters.is c.requires.fits in
    let high : c.low_of-high.result ≡ c.args.i % 64 / 4 = omega arith in
    let small : c.low_of-in-StatusCharacters.result ≡ c.args.n = omega arith in
    c.set_status.ensures ∙ with_status-is-with_chip_value s c.args.i _ c.low_of-high.result _ c.low_of-in-StatusCharacters.result c.args.n refl high refl small ∙ ap (λ (h : ChipList). with_chip_value s h c.args.i c.args.n) (sym c.in-StatusCharacters.is)

pub returns-in-RamPorts : goal.returns-in-RamPorts
returns-in-RamPorts c =
    let s = c.args.rig.now in
    let fits = subst (λ (h : ChipList). c.args.n < chip_value_limit h) c.in-RamPorts.is c.requires.fits in
    let small : c.low_of-in-RamPorts.result ≡ c.args.n = omega arith in
    c.set_ram_latch.ensures ∙ with_ram_latch-is-with_chip_value s c.args.i _ _ c.low_of-in-RamPorts.result c.args.n refl refl small ∙ ap (λ (h : ChipList). with_chip_value s h c.args.i c.args.n) (sym c.in-RamPorts.is)

pub returns-in-BankSrcBytes : goal.returns-in-BankSrcBytes
returns-in-BankSrcBytes c =
    let s = c.args.rig.now in
    c.set_ram_src.ensures ∙ with_ram_src-is-with_chip_value s c.args.i _ c.args.n refl ∙ ap (λ (h : ChipList). with_chip_value s h c.args.i c.args.n) (sym c.in-BankSrcBytes.is)
