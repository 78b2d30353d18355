use Rattle.mcs_answers.proofs.RamTexts.{bank_has_at_most_four_chips}
use Rattle.mcs_answers.proofs.ram.show_ram_sizes.Goals as goal

pub returns-clause-chips : goal.returns-clause-chips
returns-clause-chips c bank = bank_has_at_most_four_chips c.args.bench.now.bus.board bank c.show_state_is_valid.ensures.bus.board.valid
