use Rattle.std.proofs.Common.{refl, ap, ◌∙◌, ◌≡◌, ◌<◌, ◌≤◌, length, arith}
use Rattle.std.proofs.lemmas.Bool.{lt-ltb, le-ltb}
use Rattle.mcs_ram4002.specs.RamBank.{after_write, target_chip, bank_of}
use Rattle.mcs_ram4002.proofs.BankLemmas.{bank_of-after_chip_write, bank-has_fixed_lengths}
use Rattle.mcs_ram4002.proofs.Bank.store.Goals as goal

pub returns-then-chip-self-clause-stored : goal.returns-then-chip-self-clause-stored
unfolding after_write
returns-then-chip-self-clause-stored g c =
    let i = c.self.inside in
    let write = c.args.write in
    let fits : i.chip_count ≤ length i.chips = omega (arith, c.self.invariant.0, c.self.told) in
    let at : c.from-chip.result ≡ target_chip write = c.from-chip.ensures ∙ c.chip.ensures.chip in
    let chip_below_4 : c.from-chip.result < 4 = let f = c.chip.ensures.few c.requires in omega arith in
    rw (← c.self.view_is, lt-ltb (target_chip write) i.chip_count (omega arith))
    (ap (bank_of _ i.chip_count) c.src_after-self-inside.ensures
    ∙ bank_of-after_chip_write i.chips i.chip_count i.src c.from-chip.result c.index-self-chip.result c.store.new.self write c.requires at chip_below_4 c.if-chip-self.true fits c.store.ensures.sized c.store.ensures.stored)

pub returns-else-chip-self-clause-stored : goal.returns-else-chip-self-clause-stored
unfolding after_write
returns-else-chip-self-clause-stored g c =
    let i = c.self.inside in
    let at : c.from-chip.result ≡ target_chip c.args.write = c.from-chip.ensures ∙ c.chip.ensures.chip in
    rw (← c.self.view_is, le-ltb (target_chip c.args.write) i.chip_count (omega arith)) refl

pub returns-then-chip-self-clause-whole : goal.returns-then-chip-self-clause-whole
returns-then-chip-self-clause-whole g c = bank-has_fixed_lengths _ c.self.inside.chips c.self.inside.chip_count c.self.inside.src c.self.view_is

pub returns-else-chip-self-clause-whole : goal.returns-else-chip-self-clause-whole
returns-else-chip-self-clause-whole g c = bank-has_fixed_lengths _ c.self.inside.chips c.self.inside.chip_count c.self.inside.src c.self.view_is
