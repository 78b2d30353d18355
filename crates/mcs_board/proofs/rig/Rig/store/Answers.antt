use Rattle.std.proofs.Common.{arith, sym, ap, ◌∙◌, ◌≡◌}
use Rattle.mcs_ram4002.specs.RamBank.{BankState}
use Rattle.mcs_model.specs.Bus.{chips_of}
use Rattle.mcs_board.specs.RigState.{after_bank_write}
use Rattle.mcs_board.specs.RigFields.{rig_parts}
use Rattle.mcs_board.proofs.BoardMatchLemmas.{matches_board-after_set_bank}
use Rattle.mcs_board.proofs.RigLemmas.{bank-at_index, bank-absent_past_end, state-after_bank_write, bank_write-to_absent_chip, chip_count-unchanged_by_write}
use Rattle.mcs_board.proofs.rig.Rig.store.Goals as goal

pub invariant_of-self : goal.invariant_of-self
invariant_of-self g c =
    let e = c.index_mut.result.now in
    let same = ap (λ (b : BankState). b.chip_count) c.store.ensures.stored ∙ chip_count-unchanged_by_write e c.args.write in
    matches_board-after_set_bank c.self.invariant c.from-at.result e c.store.new.self (omega arith) c.index_mut.ensures.value same

pub returns-then-at-len : goal.returns-then-at-len
returns-then-at-len g c =
    let i = c.self.inside in
    let e = c.index_mut.result.now in
    let here = bank-at_index i.banks.items c.args.bank c.from-at.result e c.from-at.ensures (omega arith) c.index_mut.ensures.value in
    let chip_count = sym (ap (λ (b : BankState). b.chip_count) here) ∙ c.self.invariant.chip_count c.args.bank in
    state-after_bank_write (rig_parts i) c.args.bank c.from-at.result e c.store.new.self c.args.write c.requires.bank c.from-at.ensures (omega arith) here chip_count c.store.ensures.whole c.requires.inside c.store.ensures.few c.store.ensures.stored
    ∙ ap (λ s. after_bank_write s c.args.bank c.args.write) c.self.view_is

pub returns-else-at-len : goal.returns-else-at-len
returns-else-at-len g c =
    let i = c.self.inside in
    let here = bank-absent_past_end i.banks.items c.args.bank c.from-at.result c.from-at.ensures (omega arith) in
    let none : chips_of c.args.self.now c.args.bank ≡ 0 = ap (λ s. chips_of s c.args.bank) (sym c.self.view_is) ∙ sym (c.self.invariant.chip_count c.args.bank) ∙ ap (λ (b : BankState). b.chip_count) here in
    sym (bank_write-to_absent_chip c.args.self.now c.args.bank c.args.write (omega arith))
