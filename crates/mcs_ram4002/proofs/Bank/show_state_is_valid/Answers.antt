use Rattle.mcs_ram4002.proofs.BankLemmas.{bank-is_valid}
use Rattle.mcs_ram4002.proofs.Bank.show_state_is_valid.Goals as goal

pub returns : goal.returns
returns g c = bank-is_valid _ c.self.inside.chips c.self.inside.chip_count c.self.inside.src c.self.view_is c.self.invariant.1 c.self.invariant.2 c.show_chips_are_valid.ensures
