use Rattle.std.proofs.Common.{ap, ◌∙◌, ◌≤◌, slice_index, length, arith}
use Rattle.mcs_ram4002.specs.RamBank.{BankState}
use Rattle.mcs_ram4002.proofs.BankLemmas.{port-read, port-of_absent_chip}
use Rattle.mcs_ram4002.proofs.Bank.port.Goals as goal

pub returns-then-i-self : goal.returns-then-i-self
returns-then-i-self g c =
    let i = c.self.inside in
    let fits : i.chip_count ≤ length i.chips = omega (arith, c.self.invariant.0, c.self.told) in
    c.port.ensures
    ∙ port-read i.chips i.chip_count i.src c.from-i.result c.index-self-i.result (omega arith) c.if-i-self.true fits
    ∙ ap (λ (b : BankState). slice_index b.ports c.from-i.result) c.self.view_is
    ∙ ap (slice_index c.args.self.now.ports) c.from-i.ensures

pub returns-else-i-self : goal.returns-else-i-self
returns-else-i-self g c =
    let i = c.self.inside in
    port-of_absent_chip i.chips i.chip_count i.src c.from-i.result (omega arith) c.if-i-self.false
    ∙ ap (λ (b : BankState). slice_index b.ports c.from-i.result) c.self.view_is
    ∙ ap (slice_index c.args.self.now.ports) c.from-i.ensures
